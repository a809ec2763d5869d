pub mod Choices
pub mod TwoWalks
pub mod Lefts
