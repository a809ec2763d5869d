pub mod Objects
pub mod Sets
pub mod Histories
pub mod Linearizability
pub mod Traces
pub mod EmptySet
