-- A list of links, as a page.
use Rattle.std.specs.Prelude.{ℕ, List, [], ◌∷◌, ◌++◌, codes}
use Rattle.std.specs.List.{flat_map}
use Rattle.html_template.specs.Words.{Given, GivenMarkup, GivenSlot, IsPageOf}
use Rattle.uses.specs.declared.templates.link_list.Found.{Found}

-- a row, with slots for the id and the query in its link, and for the name
abbrev pub link_parts : List Given
link_parts =
    GivenMarkup (codes "<li><a href=\"/items/") ∷ GivenSlot ∷ GivenMarkup (codes "?q=") ∷ GivenSlot ∷
    GivenMarkup (codes "\">") ∷ GivenSlot ∷ GivenMarkup (codes "</a></li>") ∷ []

-- a row for each that was found
abbrev pub links : List Found → List Given
links found = flat_map (λ item. link_parts) found

abbrev pub item_texts : List ℕ → Found → List (List ℕ)
item_texts query item = item.id.now ∷ query ∷ item.name.now ∷ []

abbrev pub link_texts : List ℕ → List Found → List (List ℕ)
link_texts query found = flat_map (item_texts query) found

-- the page is that of one template of all rows, whose slots the texts fill
abbrev pub IsLinkList : List ℕ → List Found → List ℕ → Type 0
IsLinkList query found page = IsPageOf (links found) (link_texts query found) page
