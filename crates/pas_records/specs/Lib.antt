pub mod Lines
pub mod Covered
pub mod Marks
pub mod Rests
pub mod Rooms
pub mod Pieces
pub mod Texts
