pub mod Ruled
pub mod Passes
pub mod Kept
pub mod Ledgers
pub mod Pasts
pub mod Benches
pub mod Left
pub mod Workers
