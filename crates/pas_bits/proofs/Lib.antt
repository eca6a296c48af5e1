pub mod Runs
pub mod FreeRuns
pub mod Words
mod Masks
pub mod MovedMasks
pub mod PageVectors
pub mod Rows
