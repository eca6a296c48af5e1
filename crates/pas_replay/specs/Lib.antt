pub mod Sessions
pub mod Kits
pub mod OneThread
pub mod Operating
pub mod Taking
pub mod Performing
