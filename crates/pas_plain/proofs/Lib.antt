pub mod Desks
mod ShortOnes
mod FirstLives
