pub mod Joins
pub mod Written
pub mod Listing
pub mod Exact
pub mod Rounds
