-- The text on which an encoder that does not suit a place is found out there.
use Rattle.std.specs.Prelude.{◌≡◌, ℕ, List, [], ◌∷◌, ◌++◌, Some, codes, length}
use Rattle.hesc_specs.specs.Text.Ascii.{space, double_quote, ampersand, single_quote, less_than}
use Rattle.hesc_specs.specs.Bodies.Encoding.{body_encoding}
use Rattle.hesc_specs.specs.declared.elements.Element.TheVariants as element
use Rattle.html_escape.specs.declared.encoder.Encoder.{Encoder}
use Rattle.html_escape.specs.Encoders.{encoded}
use Rattle.hesc_grammars.specs.declared.place.Place.{Place}
use Rattle.hesc_grammars.specs.declared.place.Place.TheVariants.{Text, DoubleAttribute, SingleAttribute, UnquotedAttribute, ScriptSingle, ScriptDouble, StyleSingle, StyleDouble, ScriptBody, StyleBody}
use Rattle.hesc_places.specs.Places.Marks.{closing}
use Rattle.hesc_grammars.specs.Places.{reading}

-- the trial text of a place
abbrev pub trial : Place → List ℕ
trial Text = ampersand ∷ []
trial DoubleAttribute = double_quote ∷ []
trial SingleAttribute = single_quote ∷ []
trial (UnquotedAttribute end) = space ∷ []
trial ScriptSingle = single_quote ∷ less_than ∷ []
trial ScriptDouble = double_quote ∷ less_than ∷ []
trial StyleSingle = single_quote ∷ less_than ∷ []
trial StyleDouble = double_quote ∷ less_than ∷ []
trial ScriptBody = codes "</script>"
trial StyleBody = codes "</style>"

-- what is read from it where it stands rightly: the text, and of a body the place's own encoding
abbrev pub trial_value : Place → List ℕ
trial_value ScriptBody = body_encoding element.Script (trial ScriptBody)
trial_value StyleBody = body_encoding element.Style (trial StyleBody)
trial_value other = trial other

-- what the encoder writes for the trial text, before the closing mark alone, ends there and is read rightly
abbrev pub PassesTrial : Encoder → Place → Type 0
PassesTrial encoder place =
    reading place (encoded encoder (trial place) ++ closing place) ≡
    Some (trial_value place, length (encoded encoder (trial place)))
