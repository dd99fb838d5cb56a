use Rattle.std.proofs.Common.{◌≡◌, ◌<◌, ℕ, length, min, refl, sym, arith}
use Rattle.hesc_table.proofs.NamesOfRows.{in_no_table}
use Rattle.hesc_table.proofs.may_be_name.Goals as goal

some_count : (n count : ℕ) → count ≡ min n 8 → 0 < n → 0 < count
some_count n count is some = omega (arith, is)

pub returns-then-not-is_empty-clause-missed : goal.returns-then-not-is_empty-clause-missed
returns-then-not-is_empty-clause-missed c fails =
    let name = c.args.name.now in
    in_no_table c.min.result name (some_count (length name) c.min.result c.min.ensures)
    (rw (sym c.if-not-is_empty.ensures, sym c.is_alphanumeric.ensures) fails)

pub returns-else-not-is_empty-clause-missed : goal.returns-else-not-is_empty-clause-missed
returns-else-not-is_empty-clause-missed c fails =
    let name = c.args.name.now in
    in_no_table c.min.result name (some_count (length name) c.min.result c.min.ensures)
    (rw (sym c.if-not-is_empty.ensures) refl)
