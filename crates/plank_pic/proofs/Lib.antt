pub mod Below
pub mod EachName
pub mod TestedSteps
