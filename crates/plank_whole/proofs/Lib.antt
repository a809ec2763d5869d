pub mod Ordered
pub mod Unpicked
pub mod Idle
pub mod Sure
mod Meeting
mod Putting
mod Said
mod Stepped
