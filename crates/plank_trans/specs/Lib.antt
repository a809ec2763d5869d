pub mod Turns
pub mod Entry
pub mod Carried
