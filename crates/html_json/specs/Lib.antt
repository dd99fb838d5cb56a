pub mod Applied
pub mod AppliedStrings
pub mod Bytes
pub mod Encoding
pub mod Strings
