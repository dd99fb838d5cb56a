pub mod Sources
pub mod SourceFaults
pub mod NamedTemplates
pub mod Bindings
pub mod Names
pub mod Places
pub mod SlotNames
pub mod Words
