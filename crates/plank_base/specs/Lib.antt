pub mod Keys
pub mod Paths
