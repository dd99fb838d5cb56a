-- Where a decoder of references, of openings or of the characters of a class changes a text.
use Rattle.std.specs.Prelude.{ℕ, Bool, List}
use Rattle.memchr.specs.Find.{is_byte}
use Rattle.hesc_specs.specs.Bodies.Changes.{body_decoding_changes}
use Rattle.hesc_specs.specs.References.Changes.{reference_changes}
use Rattle.hesc_specs.specs.Text.Ascii.{ampersand, backslash}
use Rattle.hesc_specs.specs.Text.Changes.{Change}
use Rattle.hesc_specs.specs.Text.Escaped.{unescape_changes}
use Rattle.hesc_specs.specs.declared.classes.Class.TheVariants as class
use Rattle.hesc_specs.specs.declared.elements.Element.TheVariants as element
use Rattle.hesc_table.specs.NamedRows.{named_rows}
use Rattle.hesc_specs.specs.Bodies.Openings.{drops_at}
use Rattle.hesc_specs.specs.References.Changes.{refers_at}
use Rattle.hesc_specs.specs.Text.Escaped.{unescapes_at}
use Rattle.html_escape.specs.declared.decoder.Decoder.{Decoder}
use Rattle.html_escape.specs.declared.decoder.Decoder.TheVariants.{HtmlEntities, Script, Style, ScriptSingleQuoted, ScriptDoubleQuoted, ScriptQuoted, StyleSingleQuoted, StyleDoubleQuoted, StyleQuoted}
use Rattle.html_escape.specs.declared.decoder.Restored.{Restored}
use Rattle.html_escape.specs.declared.decoder.Restored.TheVariants.{Characters, Openings, References}

abbrev pub restored_of : Decoder → Restored
restored_of HtmlEntities = References
restored_of Script = Openings element.Script
restored_of Style = Openings element.Style
restored_of ScriptSingleQuoted = Characters class.ScriptSingleQuoted
restored_of ScriptDoubleQuoted = Characters class.ScriptDoubleQuoted
restored_of ScriptQuoted = Characters class.ScriptQuoted
restored_of StyleSingleQuoted = Characters class.StyleSingleQuoted
restored_of StyleDoubleQuoted = Characters class.StyleDoubleQuoted
restored_of StyleQuoted = Characters class.StyleQuoted

abbrev pub restored_changes : Restored → List ℕ → ℕ → List Change
restored_changes References = reference_changes named_rows
restored_changes (Openings element) = body_decoding_changes element
restored_changes (Characters class) = unescape_changes class

-- a change begins at a place, at a byte that is sought
abbrev pub restores_at : Restored → List ℕ → ℕ → Bool
restores_at References = refers_at named_rows
restores_at (Openings element) = drops_at element
restores_at (Characters class) = unescapes_at class

abbrev pub restored_sought : Restored → ℕ → Bool
restored_sought References = is_byte ampersand
restored_sought (Openings element) = is_byte backslash
restored_sought (Characters class) = is_byte backslash
