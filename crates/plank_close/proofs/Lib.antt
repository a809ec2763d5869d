pub mod Forcing
pub mod Stronger
pub mod Laws
