mod Common
pub mod Noting
pub mod AtDesk
pub mod Working
pub mod ActsOfPlan
pub mod Naming
pub mod PlanFacts
pub mod ActsLeft
mod Making
pub mod PhaseActs
pub mod Weaving
