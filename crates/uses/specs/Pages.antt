-- What callers of the encoders make.
pub mod Cards
pub mod Cells
pub mod Excerpts
pub mod Fields
pub mod Labels
pub mod Searches
pub mod Tables
