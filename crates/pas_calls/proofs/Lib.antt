pub mod Statuses
pub mod Endings
mod TextInPieces
pub mod Headline
mod Telling
mod Passes
mod Requests
pub mod Whole
pub mod OnePlan
