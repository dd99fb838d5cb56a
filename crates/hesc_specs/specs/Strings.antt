pub mod Encoding
pub mod Tokens
pub mod Changes
