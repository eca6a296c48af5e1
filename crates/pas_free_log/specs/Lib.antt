pub mod Logs
pub mod Conditions
pub mod Stamps
pub mod Frames
pub mod Endings
pub mod Returns
pub mod Noted
pub mod Flushes
