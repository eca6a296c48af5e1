pub mod Puts
pub mod Orders
pub mod Gives
