pub mod Footprints
pub mod Turns
pub mod Sources
