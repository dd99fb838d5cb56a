pub mod Faults
pub mod Lines
pub mod Answers
pub mod Steps
pub mod Run
pub mod Program
