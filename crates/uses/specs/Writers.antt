-- What callers write to a writer.
pub mod LogItems
pub mod Logs
