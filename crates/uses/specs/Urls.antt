pub mod ContactLinks
pub mod SearchLinks
