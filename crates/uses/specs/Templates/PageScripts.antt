-- A script that starts with two values of the page.
use Rattle.std.specs.Prelude.{ℕ, List, [], ◌∷◌, ◌++◌, codes}
use Rattle.hesc_specs.specs.Text.Ascii.{double_quote}
use Rattle.html_escape.specs.Words.{encoded}
use Rattle.html_escape.specs.declared.encoder.Encoder.TheVariants.{ScriptDoubleQuoted}
use Rattle.html_template.specs.Words.{Chunk, Markup, Slot}
use Rattle.html_template.specs.declared.parts.SlotKind.TheVariants.{Literal}
use Rattle.html_tokenizer.specs.declared.slot_place.SlotPlace.TheVariants.{ScriptDouble}

-- its pieces: code, and two string literals
abbrev pub script_pieces : List Chunk
script_pieces =
    Markup (codes "<script>var user = ") ∷ Slot ScriptDouble Literal ∷
    Markup (codes "; show(JSON.parse(") ∷ Slot ScriptDouble Literal ∷ Markup (codes "));</script>") ∷ []

-- a text as a string literal
abbrev pub string_literal : List ℕ → List ℕ
string_literal text = double_quote ∷ (encoded ScriptDoubleQuoted text ++ double_quote ∷ [])

-- the script, byte by byte
abbrev pub script_text : List ℕ → List ℕ → List ℕ
script_text user json =
    codes "<script>var user = " ++ (string_literal user ++ (codes "; show(JSON.parse(" ++ (string_literal json ++ codes "));</script>")))
