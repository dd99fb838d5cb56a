-- A decoder never lengthens a text, and leaves nothing of an empty text alone.
use Rattle.std.proofs.Common.{◌≡◌, ℕ, ◌≤◌, List, [], length}
use Rattle.hesc_specs.specs.declared.elements.Element.TheVariants as element
use Rattle.hesc_specs.specs.declared.quotes.Quotes.TheVariants as quotes
use Rattle.hesc_specs.proofs.Bodies.Decoded.{body_decoding-empty, body_decoding-shorter}
use Rattle.hesc_specs.proofs.References.Decoded.{decoded-empty, decoded-shorter}
use Rattle.hesc_specs.proofs.Strings.Decoded.{string_decoding-empty, string_decoding-shorter}
use Rattle.hesc_table.specs.NamedRows.{named_rows}
use Rattle.hesc_table.proofs.NamedTable.{short-named_rows}
use Rattle.html_escape.specs.Decoders.{decoder_text}
use Rattle.html_escape.specs.declared.decoder.Decoder.{Decoder}
use Rattle.html_escape.specs.declared.decoder.Decoder.TheVariants.{HtmlEntities, Script, Style, ScriptSingleQuoted, ScriptDoubleQuoted, ScriptQuoted, StyleSingleQuoted, StyleDoubleQuoted, StyleQuoted}

pub decoder_text-shorter : (decoder : Decoder) (text : List ℕ) → length (decoder_text decoder text) ≤ length text
decoder_text-shorter HtmlEntities text = decoded-shorter named_rows short-named_rows text
decoder_text-shorter Script text = body_decoding-shorter element.Script text
decoder_text-shorter Style text = body_decoding-shorter element.Style text
decoder_text-shorter ScriptSingleQuoted text = string_decoding-shorter element.Script quotes.Single text
decoder_text-shorter ScriptDoubleQuoted text = string_decoding-shorter element.Script quotes.Double text
decoder_text-shorter ScriptQuoted text = string_decoding-shorter element.Script quotes.Both text
decoder_text-shorter StyleSingleQuoted text = string_decoding-shorter element.Style quotes.Single text
decoder_text-shorter StyleDoubleQuoted text = string_decoding-shorter element.Style quotes.Double text
decoder_text-shorter StyleQuoted text = string_decoding-shorter element.Style quotes.Both text

pub decoder_text-empty : (decoder : Decoder) (text : List ℕ) → decoder_text decoder text ≡ [] → text ≡ []
decoder_text-empty HtmlEntities text nothing = decoded-empty named_rows short-named_rows text nothing
decoder_text-empty Script text nothing = body_decoding-empty element.Script text nothing
decoder_text-empty Style text nothing = body_decoding-empty element.Style text nothing
decoder_text-empty ScriptSingleQuoted text nothing = string_decoding-empty element.Script quotes.Single text nothing
decoder_text-empty ScriptDoubleQuoted text nothing = string_decoding-empty element.Script quotes.Double text nothing
decoder_text-empty ScriptQuoted text nothing = string_decoding-empty element.Script quotes.Both text nothing
decoder_text-empty StyleSingleQuoted text nothing = string_decoding-empty element.Style quotes.Single text nothing
decoder_text-empty StyleDoubleQuoted text nothing = string_decoding-empty element.Style quotes.Double text nothing
decoder_text-empty StyleQuoted text nothing = string_decoding-empty element.Style quotes.Both text nothing
