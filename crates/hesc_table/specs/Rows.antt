-- The rows that a program holds, as names and values.
use Rattle.std.specs.Prelude.{ℕ, ◌+◌, ◌*◌, Bool, ◌&&◌, not, nat_le, ◌==◌, List, length, map}
use Rattle.std.specs.List.{list_all}
use Rattle.std.specs.Borrow.{Bor}
use Rattle.hesc_specs.specs.References.Rows.{Row}

-- what the references of each row point to
abbrev pub rows_in : List (Bor (List ℕ) × Bor (List ℕ)) → List Row
rows_in rows = map (λ row. (row.0.now, row.1.now)) rows

-- the same of the rows of a constant
abbrev pub constant_rows : List (record { now : List ℕ } × record { now : List ℕ }) → List Row
constant_rows rows = map (λ row. (row.0.now, row.1.now)) rows

-- the value is not empty, and at most a fifth longer than the reference, which is `&`, the name and `;`
abbrev pub is_near : Row → Bool
is_near row = not (length row.1 == 0) && nat_le (5 * length row.1) (6 * (length row.0 + 2))

-- each value is
abbrev pub are_near : List Row → Bool
are_near rows = list_all is_near rows
