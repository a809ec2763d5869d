-- ---- what a call may know
pub mod Literals
pub mod Tables
pub mod Places
-- ---- what is claimed where, what steps make of it, and which claims are justified
pub mod Outlines
pub mod OwnSteps
pub mod Effects
pub mod Hindsight
pub mod After
pub mod Forced
-- ---- what the justified claims have to give
pub mod Start
pub mod ObligationList
pub mod Hidden
pub mod Writes
pub mod Obligations
-- ---- what is told
pub mod ReportedEffects
