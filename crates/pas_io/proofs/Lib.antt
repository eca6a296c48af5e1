pub mod Telling
pub mod Reaching
