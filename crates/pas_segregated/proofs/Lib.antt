pub mod Starts
pub mod GivenUp
mod WholeSlots
