pub mod Growing
pub mod Sifting
pub mod Exits
pub mod ForcedMarks
pub mod UnitMarks
