pub mod Blocks
pub mod Digits
pub mod Halves
pub mod Lanes
pub mod Picks
pub mod Rows
