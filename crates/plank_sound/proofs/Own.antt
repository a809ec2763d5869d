-- The own call: it stands in an own picture, its step is a step of its point, and what the outline claims where it comes to is true.
pub mod Standing
pub mod Readers
pub mod Stepping
pub mod PastFacts
pub mod OwnFacts
