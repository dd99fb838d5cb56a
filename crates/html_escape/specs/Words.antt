-- The words of contracts, from one place: also those of the definitions and of the forms, which stand below this crate.
pub use Rattle.html_escape.specs.BodyEncoders.{HasEncoded, added_with, held_by, kind_of}
pub use Rattle.html_escape.specs.Decoders.{decoder_changes, decoder_text}
pub use Rattle.html_escape.specs.Encoders.{encoded, encoder_changes}
pub use Rattle.html_escape.specs.Operations.{operation_changes, operation_text}
pub use Rattle.hesc_engine.specs.Forms.{AnswersPart, AnswersText, Appended, BorrowsUnchanged, StringAppended, VecAppended}
pub use Rattle.hesc_engine.specs.Forms.{WritesText, string_room}
pub use Rattle.hesc_specs.specs.References.Decoding.{decoded}
pub use Rattle.hesc_specs.specs.Text.Beginning.{AppendsBeginning, IsBeginning}
pub use Rattle.hesc_specs.specs.Text.Changes.{Change, applied}
pub use Rattle.hesc_table.specs.Rows.{constant_rows}
pub use Rattle.hesc_table.specs.Table.{rows_of}
pub use Rattle.std.specs.Io.KnownBytes.{Appends}
