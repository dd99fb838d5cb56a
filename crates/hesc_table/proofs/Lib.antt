mod Candidates
mod Halving
mod NamesOfRows
pub mod NamedTable
pub mod NearRows
