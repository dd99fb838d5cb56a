-- A page: a form with exactly two attributes, of any names and quoting.
use Rattle.std.specs.Prelude.{ℕ, List, [], ◌∷◌, Option, Some, None}
use Rattle.hesc_places.specs.Pages.AttributeReadings.{Entry}
use Rattle.hesc_places.specs.Pages.FormReadings.{form_reading}
use Rattle.hesc_places.specs.Pages.Parsers.{◌>>=◌}

-- what is read in a page: the values of the two attributes, the script's literal, and the end
pub record PageRead : Type 0 where
  pub first : List ℕ
  pub second : List ℕ
  pub third : List ℕ
  pub end : ℕ

abbrev pub page_found : List ℕ → List ℕ → List ℕ → ℕ → PageRead
page_found first second third end = record { first = first; second = second; third = third; end = end }

-- the page with these attributes, this literal and this end
abbrev pub page_of : List Entry → List ℕ → ℕ → Option PageRead
page_of (a ∷ b ∷ []) literal end = Some (page_found a.value b.value literal end)
page_of others literal end = None

-- the reading of a page from the front of the bytes, if there is one
unfoldable pub page_reading : List ℕ → Option PageRead
page_reading bytes = form_reading bytes >>= λ form. page_of form.attributes form.script form.end
