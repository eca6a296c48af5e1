mod Seeks
mod Guarded
pub mod Raises
pub mod Keepers
mod PassedGuards
