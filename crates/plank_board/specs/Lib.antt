pub mod Words
pub mod Stills
pub mod Events
pub mod Rule
pub mod Seats
pub mod Plays
pub mod Calls
pub mod Loops
