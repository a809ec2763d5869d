-- ---- what is said of a location, what is asked of it, and what the answers say
pub mod Places
pub mod Asked
pub mod Answers
