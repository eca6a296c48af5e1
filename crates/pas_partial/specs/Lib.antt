pub mod Rows
pub mod Refills
