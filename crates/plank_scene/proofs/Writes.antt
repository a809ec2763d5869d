-- The write: a write of one node of a world is a write of the picture, by the movement of each key.
pub mod Reading
pub mod Rights
pub mod Sides
pub mod Bits
pub mod Staying
pub mod Stops
pub mod Clauses
pub mod Fields
pub mod Written
