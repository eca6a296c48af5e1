pub mod Totals
pub mod Reports
pub mod Counts
