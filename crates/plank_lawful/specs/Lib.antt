pub mod Indexes
pub mod Asked
pub mod Rules
pub mod Families
pub mod Lists
pub mod Laws
