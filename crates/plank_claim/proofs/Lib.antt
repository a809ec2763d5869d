pub mod Added
pub mod Ends
pub mod Answered
pub mod Claimed
