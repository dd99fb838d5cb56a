-- The link to a page of what was found: `/search?q=`, a slot, `&page=` and a slot.
use Rattle.std.specs.Prelude.{List, [], ◌∷◌, codes}
use Rattle.html_urls.specs.declared.place.UrlPlace.TheVariants.{Query}
use Rattle.html_urls.specs.Slots.{Given, Markup, Slot}

abbrev pub search_parts : List Given
search_parts = Markup (codes "/search?q=") ∷ Slot Query ∷ Markup (codes "&page=") ∷ Slot Query ∷ []
