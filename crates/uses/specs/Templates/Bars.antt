-- A bar of a chart.
use Rattle.std.specs.Prelude.{ℕ, List, [], ◌∷◌, ◌++◌, codes}
use Rattle.html_template.specs.Words.{Chunk, Given, GivenMarkup, GivenSlot, Markup, Slot}
use Rattle.html_template.specs.declared.parts.SlotKind.TheVariants.{StyleValue}
use Rattle.html_tokenizer.specs.Styles.{filled_with}
use Rattle.html_tokenizer.specs.declared.slot_place.SlotPlace.TheVariants as place
use Rattle.uses.specs.declared.templates.bar.Bar.{Bar}

abbrev pub bar_parts : List Given
bar_parts =
    GivenMarkup (codes "<div style=\"width: ") ∷ GivenSlot ∷ GivenMarkup (codes "%; background: ") ∷ GivenSlot ∷ GivenMarkup (codes "\"></div>") ∷ []

-- its pieces: both slots take pieces of a style's value alone
abbrev pub bar_pieces : List Chunk
bar_pieces =
    Markup (codes "<div style=\"width: ") ∷ Slot place.DoubleQuoted StyleValue ∷ Markup (codes "%; background: ") ∷ Slot place.DoubleQuoted StyleValue ∷
    Markup (codes "\"></div>") ∷ []

abbrev pub bar_texts : Bar → List (List ℕ)
bar_texts bar = bar.width.now ∷ bar.color.now ∷ []

-- the markup behind each slot, up to the end of the value
abbrev pub bar_markups : List (List ℕ)
bar_markups = codes "%; background: " ∷ [] ∷ []

-- the value of its `style`
abbrev pub bar_style : Bar → List ℕ
bar_style bar = codes "width: " ++ filled_with (bar_texts bar) bar_markups
