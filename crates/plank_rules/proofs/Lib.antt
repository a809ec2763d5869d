pub mod DeclaredNames
pub mod DistinctNames
pub mod FirstIsLeast
pub mod NameSets
