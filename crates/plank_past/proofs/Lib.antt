pub mod Numbers
pub mod Reaching
pub mod Claims
pub mod Asking
pub mod Growth
pub mod Refuted
pub mod Exact
