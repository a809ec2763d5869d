pub mod Sorts
pub mod Lists
pub mod Additions
pub mod Ways
pub mod Ends
pub mod Joined
