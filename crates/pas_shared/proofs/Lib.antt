pub mod Ruling
pub mod GivingBack
pub mod Opened
pub mod Pops
pub mod Benching
mod FreshPasses
