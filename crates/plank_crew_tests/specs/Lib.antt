pub mod Rules
pub mod Players
