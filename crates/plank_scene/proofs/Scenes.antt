-- Scenes and their pictures: what a world shows of the nodes that some names name is a picture, a possible one, and a lawful one where the world is orderly.
pub mod Edges
pub mod Showing
pub mod Paths
pub mod Views
pub mod Targets
pub mod Chains
pub mod Pictured
pub mod Possible
pub mod Orderly
