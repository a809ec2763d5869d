pub mod Joined
pub mod Replay
pub mod TraceLaw
pub mod Answered
pub mod SetSteps
pub mod EmptySetLaw
pub mod Presence
