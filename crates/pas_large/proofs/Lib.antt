pub mod Left
pub mod Pages
pub mod Claims
mod Refusals
pub mod Gives
pub mod Finds
pub mod Allocates
pub mod Told
pub mod Lifted
mod Spans
