pub mod Rounds
pub mod Covering
pub mod Assigning
pub mod Telling
