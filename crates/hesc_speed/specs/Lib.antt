pub mod Measured
pub mod Slots
