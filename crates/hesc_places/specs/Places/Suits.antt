-- Which encoder suits which place.
use Rattle.std.specs.Prelude.{ℕ, ◌≢◌, ⊤, Bool, true, false, List, length}
use Rattle.html_escape.specs.declared.encoder.Encoder.{Encoder}
use Rattle.html_escape.specs.declared.encoder.Encoder.TheVariants as encoder
use Rattle.hesc_grammars.specs.declared.place.Place.{Place}
use Rattle.hesc_grammars.specs.declared.place.Place.TheVariants as place

-- the HTML encoders
abbrev pub is_html : Encoder → Bool
is_html encoder.TextMinimal = true
is_html encoder.Text = true
is_html encoder.DoubleQuotedAttribute = true
is_html encoder.SingleQuotedAttribute = true
is_html encoder.QuotedAttribute = true
is_html encoder.Safe = true
is_html encoder.UnquotedAttribute = true
is_html other = false

-- what the encoder writes can stand in the place
abbrev pub suits : Encoder → Place → Bool
suits any place.Text = is_html any
suits encoder.DoubleQuotedAttribute place.DoubleAttribute = true
suits encoder.QuotedAttribute place.DoubleAttribute = true
suits encoder.Safe place.DoubleAttribute = true
suits encoder.UnquotedAttribute place.DoubleAttribute = true
suits encoder.SingleQuotedAttribute place.SingleAttribute = true
suits encoder.QuotedAttribute place.SingleAttribute = true
suits encoder.Safe place.SingleAttribute = true
suits encoder.UnquotedAttribute place.SingleAttribute = true
suits encoder.UnquotedAttribute (place.UnquotedAttribute end) = true
suits encoder.ScriptSingleQuoted place.ScriptSingle = true
suits encoder.ScriptQuoted place.ScriptSingle = true
suits encoder.ScriptDoubleQuoted place.ScriptDouble = true
suits encoder.ScriptQuoted place.ScriptDouble = true
suits encoder.StyleSingleQuoted place.StyleSingle = true
suits encoder.StyleQuoted place.StyleSingle = true
suits encoder.StyleDoubleQuoted place.StyleDouble = true
suits encoder.StyleQuoted place.StyleDouble = true
suits encoder.Script place.ScriptBody = true
suits encoder.Style place.StyleBody = true
suits other elsewhere = false

-- the place may hold the text: an unquoted value is not empty
abbrev pub MayHold : Place → List ℕ → Type 0
MayHold (place.UnquotedAttribute end) text = length text ≢ 0
MayHold other text = ⊤
