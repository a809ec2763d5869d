pub mod Sums
pub mod Known
pub mod Joining
