-- The URL of an item: `/items/`, a slot, `?q=` and a slot.
use Rattle.std.specs.Prelude.{List, [], ◌∷◌, codes}
use Rattle.html_urls.specs.declared.place.UrlPlace.TheVariants.{Path, Query}
use Rattle.html_urls.specs.Slots.{Given, Markup, Slot}

abbrev pub item_parts : List Given
item_parts = Markup (codes "/items/") ∷ Slot Path ∷ Markup (codes "?q=") ∷ Slot Query ∷ []
