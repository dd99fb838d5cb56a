pub mod Scheme
pub mod Segments
pub mod UrlPairs
