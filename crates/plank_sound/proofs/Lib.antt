pub mod Sights
pub mod Own
pub mod Others
pub mod Hindsight
pub mod Interference
pub mod Runs
