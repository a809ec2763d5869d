-- ---- what is asked, and of what
pub mod Sites
pub mod Situations
pub mod Predicates
pub mod Goals
pub mod Questions
pub mod Places
