-- What is answered of a URL's parts and texts: nothing, or the first fault, where memory does not run out before.
use Rattle.std.specs.Prelude.{◌≡◌, ⊤, ℕ, ◌+◌, ◌==◌, List, [], ◌∷◌, length, Option, Some, None, Result, Ok, Err, if◌then◌else◌}
use Rattle.html_urls.specs.declared.parts.UrlSlot.{UrlSlot}
use Rattle.html_urls.specs.declared.parts.UrlTextFault.{UrlTextFault}
use Rattle.html_urls.specs.declared.parts.UrlTextFault.TheVariants.{Parts, WrongCount, WrongText, Memory}
use Rattle.html_urls.specs.Slots.{Given, Told, may_fill, slots_of}

-- the first text that may not fill its slot, where they are counted from this number
abbrev pub first_refused : ℕ → List UrlSlot → List (List ℕ) → Option UrlTextFault
first_refused number [] texts = None
first_refused number (slot ∷ slots) [] = None
first_refused number (slot ∷ slots) (text ∷ texts) =
    if may_fill slot text then first_refused (number + 1) slots texts else Some (WrongText number)

-- the fault of the parts, or of the count of texts, or of a text
abbrev pub texts_fault : Told → List (List ℕ) → Option UrlTextFault
texts_fault (Err fault) texts = Some (Parts fault)
texts_fault (Ok slots) texts = if length slots == length texts then first_refused 0 slots texts else Some WrongCount

abbrev pub url_fault : List Given → List (List ℕ) → Option UrlTextFault
url_fault parts texts = texts_fault (slots_of parts) texts

abbrev pub AnswersTexts : {T : Type 0} → Option UrlTextFault → Result T UrlTextFault → Type 0
AnswersTexts told (Ok done) = told ≡ None
AnswersTexts told (Err Memory) = ⊤
AnswersTexts told (Err other) = told ≡ Some other
