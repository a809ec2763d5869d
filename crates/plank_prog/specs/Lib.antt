pub mod Conditions
pub mod Views
pub mod Names
pub mod Scopes
pub mod Headers
pub mod Blocks
pub mod Methods
