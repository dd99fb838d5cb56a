pub mod AsciiRows
pub mod Hits
pub mod Stores
pub mod TakenText
pub mod Told
pub mod Took
