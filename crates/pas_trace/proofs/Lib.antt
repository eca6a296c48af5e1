pub mod WordLines
mod FrontLines
pub mod Digits
mod Gathering
pub mod Costs
pub mod PassedChecks
mod Telling
mod LexedLines
mod TakenLines
pub mod Rooms
mod ParsedItems
pub mod EveryPlan
pub mod ThreadsInOrder
pub mod Keepers
