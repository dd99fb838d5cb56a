pub mod Applied
pub mod Capped
pub mod Decoded
pub mod Next
pub mod Undone
pub mod Tables
pub mod Places
