pub mod Readings
pub mod Judgements
pub mod Puttings
pub mod Pages
pub mod Passes
pub mod Evidence
