pub mod Draws
pub mod Requests
pub mod Operations
pub mod Lines
pub mod Traces
pub mod Meant
