pub mod Digits
pub mod KeyOrder
pub mod Paths
pub mod PathCounts
