pub mod Growth
pub mod Index
pub mod NamedRows
pub mod Rows
pub mod Table
