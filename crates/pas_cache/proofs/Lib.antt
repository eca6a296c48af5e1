pub mod Resting
pub mod Obtained
pub mod Routes
pub mod FlushesAndFrees
pub mod Budget
pub mod Alone
