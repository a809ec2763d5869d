pub mod RowLemmas
pub mod OrderLaws
pub mod PartitionLaws
