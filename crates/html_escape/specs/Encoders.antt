-- What each encoder writes for a text, and where it changes it.
use Rattle.std.specs.Prelude.{◌≡◌, ℕ, List}
use Rattle.std.specs.Str.{IsUtf8}
use Rattle.hesc_specs.specs.Bodies.Encoding.{body_encoding}
use Rattle.hesc_specs.specs.Bodies.Changes.{body_encoding_changes}
use Rattle.hesc_specs.specs.Text.Changes.{Change, applied, html_changes}
use Rattle.hesc_specs.specs.Html.{encoding}
use Rattle.hesc_specs.specs.Strings.Changes.{string_encoding_changes}
use Rattle.hesc_specs.specs.Strings.Encoding.{string_encoding}
use Rattle.hesc_specs.specs.declared.classes.Class.TheVariants as class
use Rattle.hesc_specs.specs.declared.elements.Element.TheVariants as element
use Rattle.hesc_specs.specs.declared.quotes.Quotes.TheVariants as quotes
use Rattle.hesc_specs.proofs.Bodies.EncodingChanges.{applied-body_encoding_changes}
use Rattle.hesc_specs.proofs.Html.Changes.{applied-html_changes}
use Rattle.hesc_specs.proofs.Strings.EncodingChanges.{applied-string_encoding_changes}
use Rattle.html_escape.specs.declared.encoder.Encoder.{Encoder}
use Rattle.html_escape.specs.declared.encoder.Encoder.TheVariants.{TextMinimal, Text, DoubleQuotedAttribute, SingleQuotedAttribute, QuotedAttribute, Safe, UnquotedAttribute, Script, Style, ScriptSingleQuoted, ScriptDoubleQuoted, ScriptQuoted, StyleSingleQuoted, StyleDoubleQuoted, StyleQuoted}

-- what an encoder writes for a text
abbrev pub encoded : Encoder → List ℕ → List ℕ
encoded TextMinimal = encoding class.TextMinimal
encoded Text = encoding class.Text
encoded DoubleQuotedAttribute = encoding class.DoubleQuotedAttribute
encoded SingleQuotedAttribute = encoding class.SingleQuotedAttribute
encoded QuotedAttribute = encoding class.QuotedAttribute
encoded Safe = encoding class.Safe
encoded UnquotedAttribute = encoding class.UnquotedAttribute
encoded Script = body_encoding element.Script
encoded Style = body_encoding element.Style
encoded ScriptSingleQuoted = string_encoding element.Script quotes.Single
encoded ScriptDoubleQuoted = string_encoding element.Script quotes.Double
encoded ScriptQuoted = string_encoding element.Script quotes.Both
encoded StyleSingleQuoted = string_encoding element.Style quotes.Single
encoded StyleDoubleQuoted = string_encoding element.Style quotes.Double
encoded StyleQuoted = string_encoding element.Style quotes.Both

-- an encoder's changes of a source from a place on
abbrev pub encoder_changes : Encoder → List ℕ → ℕ → List Change
encoder_changes TextMinimal = html_changes class.TextMinimal
encoder_changes Text = html_changes class.Text
encoder_changes DoubleQuotedAttribute = html_changes class.DoubleQuotedAttribute
encoder_changes SingleQuotedAttribute = html_changes class.SingleQuotedAttribute
encoder_changes QuotedAttribute = html_changes class.QuotedAttribute
encoder_changes Safe = html_changes class.Safe
encoder_changes UnquotedAttribute = html_changes class.UnquotedAttribute
encoder_changes Script = body_encoding_changes element.Script
encoder_changes Style = body_encoding_changes element.Style
encoder_changes ScriptSingleQuoted = string_encoding_changes element.Script quotes.Single
encoder_changes ScriptDoubleQuoted = string_encoding_changes element.Script quotes.Double
encoder_changes ScriptQuoted = string_encoding_changes element.Script quotes.Both
encoder_changes StyleSingleQuoted = string_encoding_changes element.Style quotes.Single
encoder_changes StyleDoubleQuoted = string_encoding_changes element.Style quotes.Double
encoder_changes StyleQuoted = string_encoding_changes element.Style quotes.Both

-- an encoder's changes, made, are what it writes
pub applied-encoder_changes : (encoder : Encoder) (source : List ℕ) → IsUtf8 source → applied source 0 (encoder_changes encoder source 0) ≡ encoded encoder source
applied-encoder_changes TextMinimal source utf8 = applied-html_changes class.TextMinimal source
applied-encoder_changes Text source utf8 = applied-html_changes class.Text source
applied-encoder_changes DoubleQuotedAttribute source utf8 = applied-html_changes class.DoubleQuotedAttribute source
applied-encoder_changes SingleQuotedAttribute source utf8 = applied-html_changes class.SingleQuotedAttribute source
applied-encoder_changes QuotedAttribute source utf8 = applied-html_changes class.QuotedAttribute source
applied-encoder_changes Safe source utf8 = applied-html_changes class.Safe source
applied-encoder_changes UnquotedAttribute source utf8 = applied-html_changes class.UnquotedAttribute source
applied-encoder_changes Script source utf8 = applied-body_encoding_changes element.Script source
applied-encoder_changes Style source utf8 = applied-body_encoding_changes element.Style source
applied-encoder_changes ScriptSingleQuoted source utf8 = applied-string_encoding_changes element.Script quotes.Single source utf8
applied-encoder_changes ScriptDoubleQuoted source utf8 = applied-string_encoding_changes element.Script quotes.Double source utf8
applied-encoder_changes ScriptQuoted source utf8 = applied-string_encoding_changes element.Script quotes.Both source utf8
applied-encoder_changes StyleSingleQuoted source utf8 = applied-string_encoding_changes element.Style quotes.Single source utf8
applied-encoder_changes StyleDoubleQuoted source utf8 = applied-string_encoding_changes element.Style quotes.Double source utf8
applied-encoder_changes StyleQuoted source utf8 = applied-string_encoding_changes element.Style quotes.Both source utf8
