pub mod Written
pub mod KeptParts
pub mod Sources
pub mod Meeting
pub mod Moving
