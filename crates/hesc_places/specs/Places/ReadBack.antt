-- What is read where an encoder wrote a text.
use Rattle.std.specs.Prelude.{ℕ, List}
use Rattle.hesc_specs.specs.Bodies.Encoding.{body_encoding}
use Rattle.hesc_specs.specs.Text.Nul.{nul}
use Rattle.hesc_specs.specs.declared.elements.Element.TheVariants as element
use Rattle.html_escape.specs.declared.encoder.Encoder.{Encoder}
use Rattle.html_escape.specs.declared.encoder.Encoder.TheVariants.{UnquotedAttribute, StyleSingleQuoted, StyleDoubleQuoted, StyleQuoted, Script, Style}

-- the text, with U+FFFD for NUL by the encoders that refer to NUL by its number or replace it; of a body its encoding, which is the same body
abbrev pub read_back : Encoder → List ℕ → List ℕ
read_back UnquotedAttribute text = nul text
read_back StyleSingleQuoted text = nul text
read_back StyleDoubleQuoted text = nul text
read_back StyleQuoted text = nul text
read_back Script text = body_encoding element.Script text
read_back Style text = body_encoding element.Style text
read_back other text = text
