pub mod Fields
pub mod Walking
pub mod Starts
pub mod Flags
