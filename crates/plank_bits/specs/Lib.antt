pub mod Words
pub mod Forced
