pub mod References
pub mod Bodies
pub mod Strings
pub mod Html
pub mod Text
