pub mod Written
pub mod Ran
