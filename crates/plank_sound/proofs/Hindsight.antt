-- Hindsight: what follows from a past fact was true at some moment of the call.
pub mod LookingBack
pub mod HindsightRuns
