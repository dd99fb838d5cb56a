pub mod Names
pub mod FormWords
pub mod Commands
