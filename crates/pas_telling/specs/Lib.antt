pub mod Faults
pub mod Summaries
pub mod Outcomes
pub mod Words
pub mod Calls
