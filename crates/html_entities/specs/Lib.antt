pub mod NamedReferences
