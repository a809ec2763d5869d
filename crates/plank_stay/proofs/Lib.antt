pub mod TwoWalks
pub mod Firsts
pub mod Leading
pub mod Staying
