-- Tables with a text for each ASCII byte.
use Rattle.std.specs.Prelude.{ℕ, ◌<◌, Bool, ◌&&◌, List, [], get_or, nat_le, nat_lt, take}
use Rattle.std.specs.List.{list_all}

-- a row for each byte: the bytes of its text, with padding after them, and their number
abbrev pub Rows : Type 0
Rows = List (List ℕ × ℕ)

-- each text has at most six bytes, all of them ASCII
abbrev pub are_short_ascii : Rows → Bool
are_short_ascii rows = list_all (λ row. nat_le row.1 6 && list_all (λ b. nat_lt b 128) row.0) rows

-- a byte that has a text, and its text
abbrev pub HasText : Rows → ℕ → Type 0
HasText rows byte = 0 < (get_or rows byte ([], 0)).1

abbrev pub text_at : Rows → ℕ → List ℕ
text_at rows byte = take (get_or rows byte ([], 0)).1 (get_or rows byte ([], 0)).0
