pub mod ShortRows
pub mod Short
pub mod Plain
pub mod Seats
pub mod Sides
pub mod Storms
