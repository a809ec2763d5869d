-- Interference: every world of every run is orderly, and each claim is true of every call that stands where it is claimed.
pub mod OwnWrites
pub mod OrderlyKept
pub mod Interference
