-- Other names, allocations, and blocks: what a step of a call does is a step of its turn.
pub mod Renamed
pub mod Testing
pub mod Putting
pub mod Publishing
pub mod Turning
pub mod Idle
