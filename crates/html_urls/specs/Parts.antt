pub mod Fragments
pub mod OpaquePaths
pub mod Pairs
pub mod Paths
pub mod Queries
pub mod Rests
pub mod Segments
