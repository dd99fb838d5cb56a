pub mod Decoding
pub mod Pairs
pub mod Splits
