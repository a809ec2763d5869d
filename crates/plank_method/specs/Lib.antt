pub mod Deciding
pub mod Marks
pub mod Runs
