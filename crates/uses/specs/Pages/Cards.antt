-- A card with a title.
use Rattle.std.specs.Prelude.{◌≡◌, ℕ, List, ◌++◌, Some, codes, drop, length}
use Rattle.html_escape.specs.Words.{encoded}
use Rattle.html_escape.specs.declared.encoder.Encoder.TheVariants.{DoubleQuotedAttribute, Text}
use Rattle.hesc_places.specs.Words.{enclosed, reading}
use Rattle.hesc_grammars.specs.declared.place.Place.TheVariants.{DoubleAttribute}

-- the card, each of its two texts encoded for its place
abbrev pub card_text : List ℕ → List ℕ → List ℕ
card_text title text =
    codes "<figure title=" ++ enclosed DoubleQuotedAttribute DoubleAttribute title ++ codes "><b>" ++ encoded Text text ++ codes "</b></figure>"

-- after `<figure title="` and whatever follows the card, the title is read as it was given
abbrev pub TitleComesBack : List ℕ → List ℕ → Type 0
TitleComesBack title card =
    (rest : List ℕ) → reading DoubleAttribute (drop (length (codes "<figure title=\"")) card ++ rest) ≡
    Some (title, length (encoded DoubleQuotedAttribute title))
