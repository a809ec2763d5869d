pub mod Places
pub mod Sums
pub mod Keeps
pub mod Ends
pub mod Tells
pub mod Loops
pub mod Idle
