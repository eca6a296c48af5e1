mod Common
pub mod Requests
pub mod OwnRecords
pub mod Reached
pub mod Consequences
pub mod Tries
pub mod SingleActs
pub mod EachAct
