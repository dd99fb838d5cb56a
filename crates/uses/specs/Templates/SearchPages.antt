-- The page of a search.
use Rattle.std.specs.Prelude.{◌≡◌, ℕ, List, [], ◌∷◌, codes}
use Rattle.html_template.specs.Words.{Given, GivenMarkup, GivenSlot, IsPageOf, structure}
use Rattle.html_tokenizer.specs.Tokenizer.States.{data_state}
use Rattle.html_tokenizer.specs.Tokenizer.Tokenization.{actions_of}

-- its markup, with a slot in the title, in the value of the input, in a string of the script and in the text
abbrev pub search_parts : List Given
search_parts =
    GivenMarkup (codes "<!DOCTYPE html><title>") ∷ GivenSlot ∷
    GivenMarkup (codes "</title><form action=/search><input name=q value=\"") ∷ GivenSlot ∷
    GivenMarkup (codes "\"></form><script>log('") ∷ GivenSlot ∷
    GivenMarkup (codes "');</script><p>Nothing was found for ") ∷ GivenSlot ∷
    GivenMarkup (codes ".</p>") ∷ []

abbrev pub four : List ℕ → List (List ℕ)
four query = query ∷ query ∷ query ∷ query ∷ []

-- the page is that of this template, with the query in each slot
abbrev pub IsSearchPage : List ℕ → List ℕ → Type 0
IsSearchPage query page = IsPageOf search_parts (four query) page

-- it has the structure of the page of any other query
abbrev pub HasOneStructure : List ℕ → Type 0
HasOneStructure page =
    (query other : List ℕ) → IsSearchPage query other → structure (actions_of data_state page) ≡ structure (actions_of data_state other)
