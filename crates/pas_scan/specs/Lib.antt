pub mod Rows
pub mod Marks
pub mod Scan
pub mod Passed
pub mod Usable
pub mod Runs
