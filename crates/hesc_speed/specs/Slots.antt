-- A page of twenty slots.
use Rattle.std.specs.Prelude.{ℕ, List, [], ◌∷◌, ◌++◌, codes}
use Rattle.html_escape.specs.Encoders.{encoded}
use Rattle.html_escape.specs.declared.encoder.Encoder.TheVariants as encoder
use Rattle.html_template.specs.Templates.{Given, GivenMarkup, GivenSlot}

-- a slot in an attribute's value and one in text, and the markup after them
abbrev pub with_row : List ℕ → List Given → List Given
with_row after parts =
    GivenSlot ∷ (GivenMarkup (codes "\">") ∷ (GivenSlot ∷ (GivenMarkup after ∷ parts)))

abbrev pub with_next_row : List Given → List Given
with_next_row parts = with_row (codes "</p><p title=\"") parts

-- ten of them
abbrev pub twenty_slots : List Given
twenty_slots =
    GivenMarkup (codes "<p title=\"")
    ∷ with_next_row (with_next_row (with_next_row (with_next_row (with_next_row (with_next_row (with_next_row (with_next_row (with_next_row (with_row (codes "</p>") [])))))))))

-- the row of two texts, and a row for each two
abbrev pub row_of : List ℕ → List ℕ → List ℕ
row_of title text =
    codes "<p title=\"" ++ (encoded encoder.DoubleQuotedAttribute title ++ (codes "\">" ++ (encoded encoder.Text text ++ codes "</p>")))

abbrev pub rows_of : List (List ℕ) → List ℕ
rows_of [] = []
rows_of (title ∷ []) = []
rows_of (title ∷ (text ∷ texts)) = row_of title text ++ rows_of texts
