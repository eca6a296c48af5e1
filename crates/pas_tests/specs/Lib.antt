pub mod Kept
pub mod Seated
pub mod Walks
