pub mod Aligned
mod EndBits
mod Lowest
mod Asked
