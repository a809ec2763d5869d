pub mod Walks
pub mod Scenes
pub mod Writes
pub mod Turns
pub mod Steps
pub mod Keeps
pub mod Projection
