-- What an operation makes of a text, and where it changes it.
use Rattle.std.specs.Prelude.{◌≡◌, ℕ, Bool, List, []}
use Rattle.std.specs.Str.{IsUtf8}
use Rattle.hesc_specs.specs.Text.Changes.{Change, applied}
use Rattle.hesc_engine.specs.AsciiRows.{Rows}
use Rattle.html_escape.specs.declared.operation.Operation.{Operation}
use Rattle.html_escape.specs.declared.operation.Operation.TheVariants.{Encode, Decode}
use Rattle.html_escape.specs.Decoders.{decoder_text, decoder_changes, applied-decoder_changes}
use Rattle.html_escape.specs.Encoders.{encoded, encoder_changes, applied-encoder_changes}
use Rattle.html_escape.specs.Replaced.{replaced_of, replaced_rows, replaced_sought, replaces_at}
use Rattle.html_escape.specs.Restored.{restored_of, restored_sought, restores_at}

abbrev pub operation_text : Operation → List ℕ → List ℕ
operation_text (Encode encoder) = encoded encoder
operation_text (Decode decoder) = decoder_text decoder

-- an operation's changes of a source from a place on
abbrev pub operation_changes : Operation → List ℕ → ℕ → List Change
operation_changes (Encode encoder) = encoder_changes encoder
operation_changes (Decode decoder) = decoder_changes decoder

-- a change begins at a place, at a byte that is sought
abbrev pub operates_at : Operation → List ℕ → ℕ → Bool
operates_at (Encode encoder) = replaces_at (replaced_of encoder)
operates_at (Decode decoder) = restores_at (restored_of decoder)

abbrev pub operation_sought : Operation → ℕ → Bool
operation_sought (Encode encoder) = replaced_sought (replaced_of encoder)
operation_sought (Decode decoder) = restored_sought (restored_of decoder)

-- the texts of bytes
abbrev pub operation_rows : Operation → Rows
operation_rows (Encode encoder) = replaced_rows (replaced_of encoder)
operation_rows (Decode decoder) = []

-- an operation's changes, made, are its text
pub applied-operation_changes : (operation : Operation) (source : List ℕ) → IsUtf8 source → applied source 0 (operation_changes operation source 0) ≡ operation_text operation source
applied-operation_changes (Encode encoder) source utf8 = applied-encoder_changes encoder source utf8
applied-operation_changes (Decode decoder) source utf8 = applied-decoder_changes decoder source
