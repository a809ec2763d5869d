pub mod Origins
pub mod Begins
pub mod Pairs
pub mod Moved
pub mod Carries
pub mod Steps
pub mod Kept
