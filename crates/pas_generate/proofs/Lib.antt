mod Aligning
pub mod Operations
pub mod Digits
mod Splits
mod Says
pub mod Checks
mod Listed
mod Whole
mod Steps
