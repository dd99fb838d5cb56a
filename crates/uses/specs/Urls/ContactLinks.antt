-- The links of a contact, and its picture: a URL of markup and slots each.
use Rattle.std.specs.Prelude.{List, [], ◌∷◌, codes}
use Rattle.html_urls.specs.declared.place.UrlPlace.TheVariants.{OpaquePath, Query}
use Rattle.html_urls.specs.Slots.{Given, Markup, Slot}

abbrev pub mail_parts : List Given
mail_parts = Markup (codes "mailto:") ∷ Slot OpaquePath ∷ Markup (codes "@b.example?subject=") ∷ Slot Query ∷ []

abbrev pub call_parts : List Given
call_parts = Markup (codes "tel:") ∷ Slot OpaquePath ∷ []

abbrev pub picture_parts : List Given
picture_parts = Markup (codes "data:image/png;base64,") ∷ Slot OpaquePath ∷ []
