pub mod AllStates
pub mod Markup
pub mod Values
