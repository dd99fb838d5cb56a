-- Mails as rows of a table.
use Rattle.std.specs.Prelude.{ℕ, List, [], ◌∷◌, codes}
use Rattle.html_template.specs.Words.{Chunk, Given, GivenMarkup, GivenSlot, Markup, Slot}
use Rattle.html_template.specs.declared.parts.SlotKind.TheVariants.{Text}
use Rattle.html_tokenizer.specs.declared.slot_place.SlotPlace.TheVariants as place

-- the source of a row: its parts, its names, and its pieces
abbrev pub row_parts : List Given
row_parts = GivenMarkup (codes "<tr><td>") ∷ GivenSlot ∷ GivenMarkup (codes "<td>") ∷ GivenSlot ∷ GivenMarkup (codes "</tr>") ∷ []

abbrev pub row_names : List (List ℕ)
row_names = codes "from" ∷ codes "subject" ∷ []

abbrev pub row_pieces : List Chunk
row_pieces =
    Markup (codes "<tr><td>") ∷ Slot place.Text Text ∷ Markup (codes "<td>") ∷ Slot place.Text Text ∷ Markup (codes "</tr>") ∷ []
