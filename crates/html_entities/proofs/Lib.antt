mod Block
mod GoodRows
pub mod References
mod RowPlaces
mod StaticRows
