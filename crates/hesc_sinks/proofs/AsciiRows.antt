-- Tables with a text for each ASCII byte: each row.
use Rattle.std.proofs.Common.{◌≡◌, ℕ, zero, suc, ◌≤◌, ◌<◌, true, List, [], ◌∷◌, nat_lt, get_or, length, arith}
use Rattle.std.proofs.lemmas.Bool.{and_parts, leb-true}
use Rattle.std.proofs.lemmas.Str.Ascii.{IsAscii-cons, IsAscii-nil}
use Rattle.std.specs.List.{list_all}
use Rattle.std.specs.Str.{IsAscii}
use Rattle.hesc_sinks.specs.AsciiRows.{Rows, are_short_ascii}

pub IsAscii-tells : (bytes : List ℕ) → list_all (λ b. nat_lt b 128) bytes ≡ true → IsAscii bytes
IsAscii-tells [] all = IsAscii-nil
IsAscii-tells (b ∷ bytes) all =
    let parts = and_parts (nat_lt b 128) (list_all (λ c. nat_lt c 128) bytes) all in
    IsAscii-cons b bytes (leb-true _ _ parts.0) (IsAscii-tells bytes parts.1)

-- each row's text is short and ASCII
pub row_is_good : (rows : Rows) → are_short_ascii rows ≡ true → (b : ℕ) → b < length rows → ((get_or rows b ([], 0)).1 ≤ 6) × IsAscii (get_or rows b ([], 0)).0
row_is_good [] all b within = absurd (omega (arith, within))
row_is_good (row ∷ rows) all zero within =
    let parts = and_parts _ _ (and_parts _ _ all).0 in
    (leb-true _ _ parts.0, IsAscii-tells row.0 parts.1)
row_is_good (row ∷ rows) all (suc b) within = row_is_good rows (and_parts _ _ all).1 b (omega (arith, within))
