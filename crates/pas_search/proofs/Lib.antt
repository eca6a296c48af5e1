pub mod ForBackEnds
pub mod Pages
pub mod PagesThatServe
pub mod LoneSteps
pub mod FindingAPage
mod Surveyed
pub mod TheBestPage
pub mod Allocated
pub mod Sessions
mod ToldVisits
mod PassedBy
