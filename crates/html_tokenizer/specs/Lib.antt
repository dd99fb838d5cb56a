pub mod Declarations
pub mod Tokenizer
pub mod Standing
pub mod Tokens
pub mod Styles
pub mod UrlValues
pub mod Agreement
