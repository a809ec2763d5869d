pub mod Scenes
pub mod Worlds
pub mod Turns
pub mod Writes
pub mod OwnScenes
pub mod Projection
