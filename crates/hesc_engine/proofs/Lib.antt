pub mod HandsOn
pub mod Seam
mod Searches
pub mod Segments
pub mod Written
