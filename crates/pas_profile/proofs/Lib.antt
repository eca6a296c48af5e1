pub mod Sizes
pub mod Places
pub mod Codecs
mod Requests
pub mod Lists
