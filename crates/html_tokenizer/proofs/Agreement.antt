pub mod Values
pub mod HtmlValues
pub mod Strings
pub mod Escapes
