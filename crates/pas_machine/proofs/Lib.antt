pub mod LiveBlocks
pub mod Verdicts
