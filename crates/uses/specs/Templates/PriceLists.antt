-- A list of prices, as a page.
use Rattle.std.specs.Prelude.{ℕ, List, [], ◌∷◌, ◌++◌, codes}
use Rattle.std.specs.List.{flat_map}
use Rattle.html_template.specs.Structure.{IsPageOf}
use Rattle.html_template.specs.Templates.{Given, GivenMarkup, GivenSlot}
use Rattle.uses.specs.declared.templates.price_list.Item.{Item}

-- the head, with a slot for the title; a row, with slots for the name and the price; the foot
abbrev pub head_parts : List Given
head_parts = GivenMarkup (codes "<!DOCTYPE html><title>") ∷ GivenSlot ∷ GivenMarkup (codes "</title><table>") ∷ []

abbrev pub row_parts : List Given
row_parts =
    GivenMarkup (codes "<tr><td>") ∷ GivenSlot ∷ GivenMarkup (codes "<td data-price=\"") ∷ GivenSlot ∷
    GivenMarkup (codes "\">&#8364;</tr>") ∷ []

abbrev pub foot_parts : List Given
foot_parts = GivenMarkup (codes "</table>") ∷ []

-- a row for each item
abbrev pub rows : List Item → List Given
rows items = flat_map (λ item. row_parts) items

abbrev pub item_texts : Item → List (List ℕ)
item_texts item = item.name.now ∷ item.price.now ∷ []

abbrev pub row_texts : List Item → List (List ℕ)
row_texts items = flat_map item_texts items

-- the page is that of one template of all these parts, with a row for each item, whose slots the texts fill
abbrev pub IsPriceList : List ℕ → List Item → List ℕ → Type 0
IsPriceList title items page =
    IsPageOf ((head_parts ++ rows items) ++ foot_parts) (((title ∷ []) ++ row_texts items) ++ []) page
