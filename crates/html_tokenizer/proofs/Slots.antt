pub mod Declarations
pub mod Html
pub mod Strings
pub mod Scripts
pub mod Styles
