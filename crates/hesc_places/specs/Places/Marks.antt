-- The opening and closing marks of the places.
use Rattle.std.specs.Prelude.{ℕ, List, [], ◌∷◌, codes}
use Rattle.hesc_specs.specs.Text.Ascii.{double_quote, single_quote, less_than, equals_sign, greater_than}
use Rattle.hesc_grammars.specs.Places.{end_byte}
use Rattle.hesc_grammars.specs.declared.place.Place.{Place}
use Rattle.hesc_grammars.specs.declared.place.Place.TheVariants.{Text, DoubleAttribute, SingleAttribute, UnquotedAttribute, ScriptSingle, ScriptDouble, StyleSingle, StyleDouble, ScriptBody, StyleBody}

-- the mark after which a place begins
abbrev pub opening : Place → List ℕ
opening Text = greater_than ∷ []
opening DoubleAttribute = double_quote ∷ []
opening SingleAttribute = single_quote ∷ []
opening (UnquotedAttribute end) = equals_sign ∷ []
opening ScriptSingle = single_quote ∷ []
opening ScriptDouble = double_quote ∷ []
opening StyleSingle = single_quote ∷ []
opening StyleDouble = double_quote ∷ []
opening ScriptBody = codes "<script>"
opening StyleBody = codes "<style>"

-- the mark at which a place ends
abbrev pub closing : Place → List ℕ
closing Text = less_than ∷ []
closing DoubleAttribute = double_quote ∷ []
closing SingleAttribute = single_quote ∷ []
closing (UnquotedAttribute end) = end_byte end ∷ []
closing ScriptSingle = single_quote ∷ []
closing ScriptDouble = double_quote ∷ []
closing StyleSingle = single_quote ∷ []
closing StyleDouble = double_quote ∷ []
closing ScriptBody = codes "</script>"
closing StyleBody = codes "</style>"
