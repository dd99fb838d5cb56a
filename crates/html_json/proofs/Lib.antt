pub mod Changes
pub mod Lengths
pub mod Quoted
pub mod SameValue
