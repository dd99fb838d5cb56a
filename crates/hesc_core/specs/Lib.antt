pub mod ClassTexts
pub mod Names
pub use Rattle.hesc_engine.specs.Forms
pub use Rattle.hesc_engine.specs.Next
pub use Rattle.hesc_engine.specs.Pieces
pub use Rattle.hesc_sinks.specs.Sinks
pub use Rattle.hesc_sinks.specs.Text
pub use Rattle.hesc_table.specs.Table
