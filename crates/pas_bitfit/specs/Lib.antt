pub mod Runs
pub mod Allocates
pub mod Ends
