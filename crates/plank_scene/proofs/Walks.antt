-- Walks over abstract targets: what a walk goes on to visit from a node, and what a write of that node changes of it. No picture and no heap stands in it.
pub mod Passing
pub mod Parts
pub mod Moving
