pub mod Examinations
