mod Bringing
mod Found
mod Ageing
mod ByRooms
mod Borrowed
mod Kept
mod Unfinished
pub mod Firsts
pub mod Opened
mod HandedOver
pub mod Going
mod Ended
