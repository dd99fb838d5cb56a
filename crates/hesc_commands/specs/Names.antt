-- The words that name the operations, the encoders among them, the places, and how a value is quoted.
use Rattle.std.specs.Prelude.{◌≡◌, ℕ, List, codes}
use Rattle.hesc_specs.specs.declared.elements.Element.{Element}
use Rattle.hesc_specs.specs.declared.elements.Element.TheVariants as element
use Rattle.html_escape.specs.declared.decoder.Decoder.{Decoder}
use Rattle.html_escape.specs.declared.decoder.Decoder.TheVariants as decoder
use Rattle.html_escape.specs.declared.encoder.Encoder.{Encoder}
use Rattle.html_escape.specs.declared.encoder.Encoder.TheVariants as encoder
use Rattle.html_escape.specs.declared.operation.Operation.{Operation}
use Rattle.html_escape.specs.declared.operation.Operation.TheVariants.{Encode, Decode}
use Rattle.hesc_places.specs.declared.markup.types.Quoting.{Quoting}
use Rattle.hesc_places.specs.declared.markup.types.Quoting.TheVariants as quoting
use Rattle.hesc_grammars.specs.declared.place.End.TheVariants.{Tab, LineFeed, FormFeed, Space, Greater}
use Rattle.hesc_grammars.specs.declared.place.Place.{Place}
use Rattle.hesc_grammars.specs.declared.place.Place.TheVariants.{Text, DoubleAttribute, SingleAttribute, UnquotedAttribute, ScriptSingle, ScriptDouble, StyleSingle, StyleDouble, ScriptBody, StyleBody}

-- the name of an encoder
abbrev pub encoder_name : Encoder → List ℕ
encoder_name encoder.TextMinimal = codes "encode_text_minimal"
encoder_name encoder.Text = codes "encode_text"
encoder_name encoder.DoubleQuotedAttribute = codes "encode_double_quoted_attribute"
encoder_name encoder.SingleQuotedAttribute = codes "encode_single_quoted_attribute"
encoder_name encoder.QuotedAttribute = codes "encode_quoted_attribute"
encoder_name encoder.Safe = codes "encode_safe"
encoder_name encoder.UnquotedAttribute = codes "encode_unquoted_attribute"
encoder_name encoder.Script = codes "encode_script"
encoder_name encoder.Style = codes "encode_style"
encoder_name encoder.ScriptSingleQuoted = codes "encode_script_single_quoted_text"
encoder_name encoder.ScriptDoubleQuoted = codes "encode_script_double_quoted_text"
encoder_name encoder.ScriptQuoted = codes "encode_script_quoted_text"
encoder_name encoder.StyleSingleQuoted = codes "encode_style_single_quoted_text"
encoder_name encoder.StyleDoubleQuoted = codes "encode_style_double_quoted_text"
encoder_name encoder.StyleQuoted = codes "encode_style_quoted_text"

-- the name of a decoder
abbrev pub decoder_name : Decoder → List ℕ
decoder_name decoder.HtmlEntities = codes "decode_html_entities"
decoder_name decoder.Script = codes "decode_script"
decoder_name decoder.Style = codes "decode_style"
decoder_name decoder.ScriptSingleQuoted = codes "decode_script_single_quoted_text"
decoder_name decoder.ScriptDoubleQuoted = codes "decode_script_double_quoted_text"
decoder_name decoder.ScriptQuoted = codes "decode_script_quoted_text"
decoder_name decoder.StyleSingleQuoted = codes "decode_style_single_quoted_text"
decoder_name decoder.StyleDoubleQuoted = codes "decode_style_double_quoted_text"
decoder_name decoder.StyleQuoted = codes "decode_style_quoted_text"

-- the name of an operation
abbrev pub operation_name : Operation → List ℕ
operation_name (Encode encoder) = encoder_name encoder
operation_name (Decode decoder) = decoder_name decoder

-- the word for a body by lines
abbrev pub lines_name : Element → List ℕ
lines_name element.Script = codes "lines-script"
lines_name element.Style = codes "lines-style"

-- the word for a place
abbrev pub place_name : Place → List ℕ
place_name Text = codes "text"
place_name DoubleAttribute = codes "double-attribute"
place_name SingleAttribute = codes "single-attribute"
place_name (UnquotedAttribute Tab) = codes "unquoted-tab"
place_name (UnquotedAttribute LineFeed) = codes "unquoted-line-feed"
place_name (UnquotedAttribute FormFeed) = codes "unquoted-form-feed"
place_name (UnquotedAttribute Space) = codes "unquoted-space"
place_name (UnquotedAttribute Greater) = codes "unquoted-greater"
place_name ScriptSingle = codes "script-single"
place_name ScriptDouble = codes "script-double"
place_name StyleSingle = codes "style-single"
place_name StyleDouble = codes "style-double"
place_name ScriptBody = codes "script-body"
place_name StyleBody = codes "style-body"

-- the letter for how a value is quoted
abbrev pub quoting_name : Quoting → List ℕ
quoting_name quoting.Unquoted = codes "u"
quoting_name quoting.Single = codes "s"
quoting_name quoting.Double = codes "d"

-- the word is the name of this one
abbrev pub IsNameOf : {T : Type 0} → (T → List ℕ) → List ℕ → T → Type 0
IsNameOf name word named = name named ≡ word

-- the word is no name
abbrev pub IsNoNameBy : {T : Type 0} → (T → List ℕ) → List ℕ → Type 0
IsNoNameBy {T = T} name word = (named : T) → name named ≡ word → ⊥
