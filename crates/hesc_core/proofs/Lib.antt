mod AsciiTables
mod ClassEscapes
mod ClassRows
pub mod ClassWords
mod CommonNames
pub mod EachPlace
pub mod ElementWords
pub mod HandsOnConstant
pub mod HandsOnTable
mod StyleEscapes
