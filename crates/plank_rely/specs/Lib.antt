pub mod Candidates
pub mod Breaking
