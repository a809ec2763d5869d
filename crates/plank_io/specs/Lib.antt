pub mod Adapters
pub mod Faults
pub mod MemSinkState
pub mod MemSourceState
pub mod Sinks
pub mod Sources
pub mod Whole
