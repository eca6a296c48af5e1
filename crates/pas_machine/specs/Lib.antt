pub mod State
pub mod Machine
pub mod Totals
pub mod Laws
pub mod Reasons
pub mod Places
pub mod Machines
