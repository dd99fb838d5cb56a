pub mod Blocks
pub mod ClassNumbers
pub mod Entries
pub mod Groups
