pub mod OneEntry
pub mod AllEntries
