-- Tables of entities: rows of a name and its value.
-- HTML Standard, 13.5 Named character references, of which a table has some.
use Rattle.std.specs.Prelude.{ℕ, ◌+◌, Bool, ◌&&◌, not, nat_le, ◌==◌, List, [], ◌∷◌, Option, Some, None, codes, if◌then◌else◌, length, slice_index_or}
use Rattle.std.specs.List.{list_all}
use Rattle.std.specs.Str.{bytes_eq}
use Rattle.hesc_specs.specs.Text.Ascii.{double_quote}

-- a name and its value
abbrev pub Row : Type 0
Row = List ℕ × List ℕ

abbrev pub row_at : List Row → ℕ → Row
row_at rows i = slice_index_or rows i ([], [])

-- the value of a name: that of the first row with exactly this name, if there is one
abbrev pub value_of : List Row → List ℕ → Option (List ℕ)
value_of [] name = None
value_of (row ∷ rows) name = if bytes_eq row.0 name then Some row.1 else value_of rows name

-- the value is not empty, and has no more bytes than the reference, which is `&`, the name and `;`
abbrev pub is_short : Row → Bool
is_short row = not (length row.1 == 0) && nat_le (length row.1) (length row.0 + 2)

-- each value is
abbrev pub are_short : List Row → Bool
are_short rows = list_all is_short rows

-- the UTF-8 of U+00A0
abbrev pub no_break_space : List ℕ
no_break_space = 0xC2 ∷ 0xA0 ∷ []

-- the six common names with their values
abbrev pub common_rows : List Row
common_rows =
    (codes "amp", codes "&") ∷ (codes "apos", codes "'") ∷ (codes "gt", codes ">") ∷ (codes "lt", codes "<")
    ∷ (codes "nbsp", no_break_space) ∷ (codes "quot", double_quote ∷ []) ∷ []
