-- A stranger's name, as a page.
use Rattle.std.specs.Prelude.{◌≡◌, ◌⊎◌, ℕ, true, false, List, [], ◌∷◌, codes}
use Rattle.html_template.specs.Words.{Chunk, Given, GivenMarkup, GivenSlot, IsPageOf, Markup, Slot}
use Rattle.html_template.specs.declared.parts.SlotKind.TheVariants.{Link, Text}
use Rattle.html_tokenizer.specs.declared.slot_place.SlotPlace.TheVariants as place
use Rattle.html_urls.specs.Words.{is_link}
use Rattle.uses.specs.declared.templates.home_page.Stranger.{Stranger}

-- with a slot for the whole URL and one for the name
abbrev pub link_parts : List Given
link_parts =
    GivenMarkup (codes "<a rel=\"nofollow\" href=\"") ∷ GivenSlot ∷ GivenMarkup (codes "\">") ∷ GivenSlot ∷
    GivenMarkup (codes "</a>") ∷ []

-- its pieces: the one slot takes links alone
abbrev pub link_pieces : List Chunk
link_pieces =
    Markup (codes "<a rel=\"nofollow\" href=\"") ∷ Slot place.DoubleQuoted Link ∷ Markup (codes "\">") ∷ Slot place.Text Text ∷
    Markup (codes "</a>") ∷ []

-- without a link
abbrev pub name_parts : List Given
name_parts = GivenMarkup (codes "<b>") ∷ GivenSlot ∷ GivenMarkup (codes "</b>") ∷ []

-- a URL that is a link, and the page with it; or one that is none, and the page without
abbrev pub IsStranger : Stranger → List ℕ → Type 0
IsStranger stranger page =
    ((is_link stranger.url.now ≡ true) × IsPageOf link_parts (stranger.url.now ∷ stranger.name.now ∷ []) page)
    ⊎ ((is_link stranger.url.now ≡ false) × IsPageOf name_parts (stranger.name.now ∷ []) page)
