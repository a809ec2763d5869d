pub mod More
pub mod UnitLaws
pub mod Numbers
