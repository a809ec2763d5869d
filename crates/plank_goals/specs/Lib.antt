-- ---- lists of goals, and what they say
pub mod Lists
pub mod Wrongs
pub mod Named
pub mod Spots
pub mod Hidden
