-- Pictures tell the truth: a literal is true in the picture exactly where it is true of what the call sees.
pub mod Sighted
pub mod Seen
pub mod PastSeen
pub mod KnownNames
pub mod LastingFacts
pub mod LiteralKinds
pub mod Carrying
