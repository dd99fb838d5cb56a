-- What each encoder replaces: the characters of a class, or the openings of a body; what is written for a text then, and where it changes.
use Rattle.std.specs.Prelude.{ℕ, Bool, List, []}
use Rattle.memchr.specs.Find.{is_byte}
use Rattle.hesc_specs.specs.Bodies.Encoding.{body_encoding}
use Rattle.hesc_specs.specs.Bodies.Changes.{body_encoding_changes}
use Rattle.hesc_specs.specs.Bodies.Openings.{opens_at}
use Rattle.hesc_specs.specs.Text.Ascii.{less_than}
use Rattle.hesc_specs.specs.Text.Changes.{Change}
use Rattle.hesc_specs.specs.Text.Classes.{in_class}
use Rattle.hesc_specs.specs.Text.Escaped.{escape_changes, escaped}
use Rattle.hesc_specs.specs.Text.EscapedPlaces.{escapes_at}
use Rattle.hesc_specs.specs.declared.classes.Class.TheVariants as class
use Rattle.hesc_specs.specs.declared.elements.Element.TheVariants as element
use Rattle.hesc_engine.specs.AsciiRows.{Rows}
use Rattle.hesc_core.specs.ClassTexts.{class_rows}
use Rattle.html_escape.specs.declared.encoder.Encoder.{Encoder}
use Rattle.html_escape.specs.declared.encoder.Encoder.TheVariants.{TextMinimal, Text, DoubleQuotedAttribute, SingleQuotedAttribute, QuotedAttribute, Safe, UnquotedAttribute, Script, Style, ScriptSingleQuoted, ScriptDoubleQuoted, ScriptQuoted, StyleSingleQuoted, StyleDoubleQuoted, StyleQuoted}
use Rattle.html_escape.specs.declared.encoder.Replaced.{Replaced}
use Rattle.html_escape.specs.declared.encoder.Replaced.TheVariants.{Characters, Openings}

abbrev pub replaced_of : Encoder → Replaced
replaced_of TextMinimal = Characters class.TextMinimal
replaced_of Text = Characters class.Text
replaced_of DoubleQuotedAttribute = Characters class.DoubleQuotedAttribute
replaced_of SingleQuotedAttribute = Characters class.SingleQuotedAttribute
replaced_of QuotedAttribute = Characters class.QuotedAttribute
replaced_of Safe = Characters class.Safe
replaced_of UnquotedAttribute = Characters class.UnquotedAttribute
replaced_of Script = Openings element.Script
replaced_of Style = Openings element.Style
replaced_of ScriptSingleQuoted = Characters class.ScriptSingleQuoted
replaced_of ScriptDoubleQuoted = Characters class.ScriptDoubleQuoted
replaced_of ScriptQuoted = Characters class.ScriptQuoted
replaced_of StyleSingleQuoted = Characters class.StyleSingleQuoted
replaced_of StyleDoubleQuoted = Characters class.StyleDoubleQuoted
replaced_of StyleQuoted = Characters class.StyleQuoted

abbrev pub replaced_text : Replaced → List ℕ → List ℕ
replaced_text (Characters class) = escaped class
replaced_text (Openings element) = body_encoding element

abbrev pub replaced_changes : Replaced → List ℕ → ℕ → List Change
replaced_changes (Characters class) = escape_changes class
replaced_changes (Openings element) = body_encoding_changes element

-- a change begins at a place, at a byte that is sought
abbrev pub replaces_at : Replaced → List ℕ → ℕ → Bool
replaces_at (Characters class) = escapes_at class
replaces_at (Openings element) = opens_at element

abbrev pub replaced_sought : Replaced → ℕ → Bool
replaced_sought (Characters class) = in_class class
replaced_sought (Openings element) = is_byte less_than

-- the texts of bytes
abbrev pub replaced_rows : Replaced → Rows
replaced_rows (Characters class) = class_rows class
replaced_rows (Openings element) = []
