pub mod Reached
pub mod Told
pub mod Unread
pub mod Taken
pub mod Schedules
pub mod Inputs
