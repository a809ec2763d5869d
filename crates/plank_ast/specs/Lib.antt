pub mod Layout
pub mod Prints
pub mod Spelled
pub mod Spelling
pub mod Texts
