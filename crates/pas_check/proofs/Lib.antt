mod Readings
pub mod Cuts
mod Pages
pub mod Verdicts
pub mod OneNext
pub mod Ticks
pub mod Leads
mod Logs
mod Actings
mod Stretches
pub mod ActsOfPlans
