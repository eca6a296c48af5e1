pub mod Masks
pub mod Stops
pub mod Takes
pub mod Refills
