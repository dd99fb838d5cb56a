-- Bytes of a text in lanes, and the lanes that their component is picked from.
use Rattle.std.specs.Prelude.{ℕ, ◌/◌, ◌%◌, ◌||◌, ◌==◌, Bool, true, List, [], ◌∷◌, ◌++◌, drop, if◌then◌else◌, map, max, nat_lt, slice_index, take}
use Rattle.std.specs.Fmt.{digit_glyph}
use Rattle.html_urls.specs.Components.{is_encoded}
use Rattle.html_urls.specs.declared.component.picks.TheConstants.{PICKS}

-- the two hexadecimal digits of a byte
abbrev pub high_digit : ℕ → ℕ
high_digit b = digit_glyph true (b / 16 % 16)

abbrev pub low_digit : ℕ → ℕ
low_digit b = digit_glyph true (b % 16)

-- the high digit of a byte that is percent-encoded, and another byte itself
abbrev pub head_of : ℕ → ℕ
head_of b = if is_encoded b then high_digit b else b

-- what a component is picked from: the heads of its bytes, and their low digits
abbrev pub lanes_of : List ℕ → List ℕ
lanes_of bytes = map head_of bytes ++ map low_digit bytes

-- sixteen of the lanes that the table names, from a place on
abbrev pub picks_at : ℕ → List ℕ
picks_at place = take 16 (drop place PICKS.now)

-- one of sixteen lanes, or none, which is 128
abbrev pub is_pick : ℕ → Bool
is_pick k = nat_lt k 16 || k == 128

-- the lane that is picked, or `%` for none; no lane that is picked is less
abbrev pub picked_from : List ℕ → ℕ → ℕ
picked_from lanes k = max 37 (slice_index lanes k)

-- the digits of eight bytes, each two with a `%` before them
abbrev pub with_signs : List ℕ → List ℕ
with_signs digits =
    37 ∷ slice_index digits 0 ∷ slice_index digits 1 ∷ 37 ∷ slice_index digits 2 ∷ slice_index digits 3 ∷ 37 ∷ slice_index digits 4 ∷ slice_index digits 5 ∷ 37 ∷ slice_index digits 6 ∷ slice_index digits 7 ∷ 37 ∷ slice_index digits 8 ∷ slice_index digits 9 ∷ 37 ∷ slice_index digits 10 ∷ slice_index digits 11 ∷ 37 ∷ slice_index digits 12 ∷ slice_index digits 13 ∷ 37 ∷ slice_index digits 14 ∷ slice_index digits 15 ∷ []
