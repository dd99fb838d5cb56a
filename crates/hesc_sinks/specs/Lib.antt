pub mod AsciiRows
pub mod Hits
pub mod Room
pub mod Sinks
pub mod Stores
pub mod Text
pub mod Took
