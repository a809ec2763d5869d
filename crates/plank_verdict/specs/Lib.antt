pub mod Effects
pub mod Judged
pub mod Kept
