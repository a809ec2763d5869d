-- Keeps and orders: a write at which no obligation on nodes, pointers and keys fails leaves every shared node within its keeps, also one without a name.
pub mod Inner
pub mod Keeping
pub mod KeptWrites
pub mod OrderlyWorlds
