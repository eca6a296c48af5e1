pub mod Seats
pub mod Outcomes
pub mod Parts
pub mod Pools
pub mod Heaps
