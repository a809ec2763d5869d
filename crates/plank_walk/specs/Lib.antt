pub mod Settles
pub mod Seen
pub mod Walks
pub mod Laws
