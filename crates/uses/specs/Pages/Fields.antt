-- A field with a note.
use Rattle.std.specs.Prelude.{◌≡◌, ℕ, List, ◌++◌, Some, codes, drop, length}
use Rattle.hesc_places.specs.Words.{Entry, form_back, form_reading, form_text}

-- the form of the attributes and the note, in a paragraph
abbrev pub field_text : List Entry → List ℕ → List ℕ
field_text attributes note = codes "<p>" ++ form_text attributes note ++ codes "</p>"

-- after `<p>` and whatever follows the paragraph, the attributes and the note are read
abbrev pub FieldComesBack : List Entry → List ℕ → List ℕ → Type 0
FieldComesBack attributes note page =
    (rest : List ℕ) → form_reading (drop (length (codes "<p>")) page ++ rest) ≡ Some (form_back attributes note)
