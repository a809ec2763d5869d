pub mod Bytes
pub mod Kinds
pub mod Lexemes
pub mod Parts
pub mod Places
pub mod Spelling
pub mod Tokens
