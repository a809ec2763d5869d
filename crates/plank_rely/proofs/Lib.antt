pub mod Unions
pub mod Said
pub mod Effects
pub mod Answers
pub mod NamesOfEffects
