pub mod Asks
pub mod Lists
pub mod Pictured
pub mod Rulings
