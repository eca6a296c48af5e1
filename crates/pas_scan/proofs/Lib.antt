pub mod Reading
pub mod ToldLooks
pub mod LeftPages
