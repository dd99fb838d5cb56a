-- A form, as a page.
use Rattle.std.specs.Prelude.{ℕ, List, [], ◌∷◌, codes}
use Rattle.html_template.specs.Words.{Given, GivenMarkup, GivenSlot, IsPageOf}
use Rattle.uses.specs.declared.templates.form_page.Draft.{Draft}

-- a slot in the path of the form's address, in the values of two inputs, in the textarea, and in a string of the script
abbrev pub form_parts : List Given
form_parts =
    GivenMarkup (codes "<form method=post action=\"/notes/") ∷ GivenSlot ∷
    GivenMarkup (codes "\"><input name=title value=\"") ∷ GivenSlot ∷
    GivenMarkup (codes "\"><input name=tags value='") ∷ GivenSlot ∷
    GivenMarkup (codes "'><textarea name=text>\n") ∷ GivenSlot ∷
    GivenMarkup (codes "</textarea></form><script>restore(\"") ∷ GivenSlot ∷
    GivenMarkup (codes "\");</script>") ∷ []

abbrev pub draft_texts : Draft → List (List ℕ)
draft_texts draft = draft.id.now ∷ draft.title.now ∷ draft.tags.now ∷ draft.text.now ∷ draft.id.now ∷ []

-- whatever the draft holds and whatever follows, the page is tokenized as its template is, with each text handed to its slot whole
abbrev pub IsFormPage : Draft → List ℕ → Type 0
IsFormPage draft page = IsPageOf form_parts (draft_texts draft) page
