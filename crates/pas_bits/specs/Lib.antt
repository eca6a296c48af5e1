pub mod Bits
pub mod Runs
pub mod Masks
pub mod PageVectors
pub mod Rows
