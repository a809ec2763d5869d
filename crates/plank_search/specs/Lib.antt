pub mod Assignments
pub mod Answers
pub mod Meanings
pub mod Counting
pub mod ExampleOrder
pub mod Sessions
