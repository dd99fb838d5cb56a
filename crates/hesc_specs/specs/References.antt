pub mod Numbers
pub mod Rows
pub mod TableFaults
pub mod Decoding
pub mod Changes
pub mod KeptControls
