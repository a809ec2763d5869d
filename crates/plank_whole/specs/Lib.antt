pub mod Wholes
pub mod Judging
pub mod Stepping
pub mod Cells
pub mod Ranks
pub mod Rows
