pub mod Reaching
pub mod Keeping
pub mod Listing
pub mod Acceptance
