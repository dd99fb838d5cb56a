-- What each decoder reads from a text, and where it changes it.
use Rattle.std.specs.Prelude.{◌≡◌, ℕ, List}
use Rattle.hesc_specs.specs.Bodies.Encoding.{body_decoding}
use Rattle.hesc_specs.specs.Bodies.Changes.{body_decoding_changes}
use Rattle.hesc_specs.specs.Text.Changes.{Change, applied}
use Rattle.hesc_specs.specs.References.Changes.{reference_changes}
use Rattle.hesc_specs.specs.References.Decoding.{decoded}
use Rattle.hesc_specs.specs.Strings.Changes.{string_decoding_changes}
use Rattle.hesc_specs.specs.Strings.Tokens.{string_decoding}
use Rattle.hesc_specs.specs.declared.elements.Element.TheVariants as element
use Rattle.hesc_specs.specs.declared.quotes.Quotes.TheVariants as quotes
use Rattle.hesc_specs.proofs.References.Applied.{applied-reference_changes}
use Rattle.hesc_specs.proofs.Bodies.DecodingChanges.{applied-body_decoding_changes}
use Rattle.hesc_specs.proofs.Strings.DecodingChanges.{applied-string_decoding_changes}
use Rattle.hesc_table.specs.NamedRows.{named_rows}
use Rattle.html_escape.specs.declared.decoder.Decoder.{Decoder}
use Rattle.html_escape.specs.declared.decoder.Decoder.TheVariants.{HtmlEntities, Script, Style, ScriptSingleQuoted, ScriptDoubleQuoted, ScriptQuoted, StyleSingleQuoted, StyleDoubleQuoted, StyleQuoted}

-- what a decoder reads from a text
abbrev pub decoder_text : Decoder → List ℕ → List ℕ
decoder_text HtmlEntities = decoded named_rows
decoder_text Script = body_decoding element.Script
decoder_text Style = body_decoding element.Style
decoder_text ScriptSingleQuoted = string_decoding element.Script quotes.Single
decoder_text ScriptDoubleQuoted = string_decoding element.Script quotes.Double
decoder_text ScriptQuoted = string_decoding element.Script quotes.Both
decoder_text StyleSingleQuoted = string_decoding element.Style quotes.Single
decoder_text StyleDoubleQuoted = string_decoding element.Style quotes.Double
decoder_text StyleQuoted = string_decoding element.Style quotes.Both

-- a decoder's changes of a source from a place on
abbrev pub decoder_changes : Decoder → List ℕ → ℕ → List Change
decoder_changes HtmlEntities = reference_changes named_rows
decoder_changes Script = body_decoding_changes element.Script
decoder_changes Style = body_decoding_changes element.Style
decoder_changes ScriptSingleQuoted = string_decoding_changes element.Script quotes.Single
decoder_changes ScriptDoubleQuoted = string_decoding_changes element.Script quotes.Double
decoder_changes ScriptQuoted = string_decoding_changes element.Script quotes.Both
decoder_changes StyleSingleQuoted = string_decoding_changes element.Style quotes.Single
decoder_changes StyleDoubleQuoted = string_decoding_changes element.Style quotes.Double
decoder_changes StyleQuoted = string_decoding_changes element.Style quotes.Both

-- a decoder's changes, made, are what it reads
pub applied-decoder_changes : (decoder : Decoder) (source : List ℕ) → applied source 0 (decoder_changes decoder source 0) ≡ decoder_text decoder source
applied-decoder_changes HtmlEntities source = applied-reference_changes named_rows source
applied-decoder_changes Script source = applied-body_decoding_changes element.Script source
applied-decoder_changes Style source = applied-body_decoding_changes element.Style source
applied-decoder_changes ScriptSingleQuoted source = applied-string_decoding_changes element.Script quotes.Single source
applied-decoder_changes ScriptDoubleQuoted source = applied-string_decoding_changes element.Script quotes.Double source
applied-decoder_changes ScriptQuoted source = applied-string_decoding_changes element.Script quotes.Both source
applied-decoder_changes StyleSingleQuoted source = applied-string_decoding_changes element.Style quotes.Single source
applied-decoder_changes StyleDoubleQuoted source = applied-string_decoding_changes element.Style quotes.Double source
applied-decoder_changes StyleQuoted source = applied-string_decoding_changes element.Style quotes.Both source
