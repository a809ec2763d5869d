pub mod Codes
pub mod Numbers
pub mod Shapes
pub mod Tellings
