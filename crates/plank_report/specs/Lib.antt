pub mod Pieces
pub mod Names
pub mod Steps
pub mod Facts
pub mod Verdicts
pub mod Reports
