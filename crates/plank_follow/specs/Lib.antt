pub mod Kinds
pub mod Literals
pub mod Following
pub mod Known
pub mod Together
