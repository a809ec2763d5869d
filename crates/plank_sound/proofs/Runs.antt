-- Runs: turns of keys and answers are justified, and no step reads null.
pub mod StartWorlds
pub mod Turns
pub mod SoundRuns
pub mod NullReads
pub mod Upkeep
