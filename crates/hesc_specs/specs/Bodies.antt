pub mod Openings
pub mod Encoding
pub mod Changes
pub mod SameBody
pub mod Sessions
pub mod DecidedChanges
