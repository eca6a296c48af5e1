pub mod Texts
mod Decimals
mod Dealt
mod Written
pub mod MarksAtRest
pub mod Pieces
pub mod Showable
