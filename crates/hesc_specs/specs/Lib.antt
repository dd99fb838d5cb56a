pub mod Html
pub mod Text
pub mod Strings
pub mod References
pub mod Bodies
