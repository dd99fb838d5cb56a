-- The head of a page with a style sheet and a script.
use Rattle.std.specs.Prelude.{ℕ, List, [], ◌∷◌, codes}
use Rattle.html_template.specs.Words.{Chunk, Given, GivenMarkup, GivenSlot, Markup, Slot}
use Rattle.html_template.specs.declared.parts.SlotKind.TheVariants.{OwnPath, Text}
use Rattle.html_tokenizer.specs.declared.slot_place.SlotPlace.TheVariants as place
use Rattle.uses.specs.declared.templates.asset_page.Assets.{Assets}

abbrev pub asset_parts : List Given
asset_parts =
    GivenMarkup (codes "<!DOCTYPE html><title>") ∷ GivenSlot ∷ GivenMarkup (codes "</title><link rel=stylesheet href=\"") ∷ GivenSlot ∷
    GivenMarkup (codes "\"><script src=\"") ∷ GivenSlot ∷ GivenMarkup (codes "\"></script>") ∷ []

-- its pieces: two slots take own paths alone
abbrev pub asset_pieces : List Chunk
asset_pieces =
    Markup (codes "<!DOCTYPE html><title>") ∷ Slot place.Text Text ∷ Markup (codes "</title><link rel=stylesheet href=\"") ∷
    Slot place.DoubleQuoted OwnPath ∷ Markup (codes "\"><script src=\"") ∷ Slot place.DoubleQuoted OwnPath ∷ Markup (codes "\"></script>") ∷ []

abbrev pub asset_texts : Assets → List (List ℕ)
asset_texts assets = assets.title.now ∷ assets.style.now ∷ assets.script.now ∷ []
