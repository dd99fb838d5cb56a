-- What an encoder writes has at most six bytes for each of its text.
use Rattle.std.proofs.Common.{ℕ, ◌*◌, ◌<◌, ◌≤◌, List, Fits, get_or, length, w8, arith}
use Rattle.std.proofs.lemmas.List.Sums.{count_by-le-length}
use Rattle.std.specs.Prelude.{◌==◌}
use Rattle.std.specs.Simd.Lanes.{Each1}
use Rattle.std.specs.Str.{IsUtf8}
use Rattle.hesc_specs.specs.Bodies.Encoding.{body_encoding}
use Rattle.hesc_specs.specs.Text.Ascii.{less_than}
use Rattle.hesc_specs.specs.declared.classes.Class.TheVariants as class
use Rattle.hesc_specs.specs.declared.elements.Element.{Element}
use Rattle.hesc_specs.specs.declared.elements.Element.TheVariants as element
use Rattle.hesc_specs.proofs.Bodies.Bound.{length-body_encoding}
use Rattle.hesc_scan.proofs.ChunkSearch.{rest_below_256}
use Rattle.hesc_scan.proofs.Lengths.Longest.{longest}
use Rattle.html_escape.specs.Encoders.{encoded}
use Rattle.html_escape.specs.declared.encoder.Encoder.{Encoder}
use Rattle.html_escape.specs.declared.encoder.Encoder.TheVariants.{TextMinimal, Text, DoubleQuotedAttribute, SingleQuotedAttribute, QuotedAttribute, Safe, UnquotedAttribute, Script, Style, ScriptSingleQuoted, ScriptDoubleQuoted, ScriptQuoted, StyleSingleQuoted, StyleDoubleQuoted, StyleQuoted}

body : (element : Element) (text : List ℕ) → length (body_encoding element text) ≤ length text * 6
body element text = omega (arith, length-body_encoding element text, count_by-le-length (λ b. b == less_than) text)

by_class : (encoder : Encoder) (text : List ℕ) → IsUtf8 text → Each1 (λ b. b < 256) text → length (encoded encoder text) ≤ length text * 6
by_class TextMinimal text utf8 below = longest class.TextMinimal text utf8 below
by_class Text text utf8 below = longest class.Text text utf8 below
by_class DoubleQuotedAttribute text utf8 below = longest class.DoubleQuotedAttribute text utf8 below
by_class SingleQuotedAttribute text utf8 below = longest class.SingleQuotedAttribute text utf8 below
by_class QuotedAttribute text utf8 below = longest class.QuotedAttribute text utf8 below
by_class Safe text utf8 below = longest class.Safe text utf8 below
by_class UnquotedAttribute text utf8 below = longest class.UnquotedAttribute text utf8 below
by_class Script text utf8 below = body element.Script text
by_class Style text utf8 below = body element.Style text
by_class ScriptSingleQuoted text utf8 below = longest class.ScriptSingleQuoted text utf8 below
by_class ScriptDoubleQuoted text utf8 below = longest class.ScriptDoubleQuoted text utf8 below
by_class ScriptQuoted text utf8 below = longest class.ScriptQuoted text utf8 below
by_class StyleSingleQuoted text utf8 below = longest class.StyleSingleQuoted text utf8 below
by_class StyleDoubleQuoted text utf8 below = longest class.StyleDoubleQuoted text utf8 below
by_class StyleQuoted text utf8 below = longest class.StyleQuoted text utf8 below

pub longest_encoded : (encoder : Encoder) (text : List ℕ) → IsUtf8 text → ((k : ℕ) → Fits w8 (get_or text k 0)) → length (encoded encoder text) ≤ length text * 6
longest_encoded encoder text utf8 fits = by_class encoder text utf8 (rest_below_256 text 0 (omega arith) fits)
