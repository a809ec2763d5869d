pub mod Heaps
pub mod Walks
pub mod Changes
