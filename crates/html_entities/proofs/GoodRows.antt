-- That rows have no fault, by one pass over them: each row is looked at beside the name before it. So that a long table is computed in a time that grows with its length alone.
use Rattle.std.proofs.Common.{ℕ, zero, suc, ◌≡◌, ◌-◌, ◌<◌, ◌≤◌, Bool, true, false, ◌&&◌, not, List, [], ◌∷◌, None, ◌==◌, length, nat_le, refl, arith}
use Rattle.std.proofs.lemmas.Bool.{and_parts}
use Rattle.std.specs.Cmp.Lexicographic.{slice_cmp}
use Rattle.std.specs.Ordering.{is_lt, nat_cmp}
use Rattle.hesc_specs.specs.References.Rows.{Row, row_at, common_rows}
use Rattle.hesc_specs.specs.References.TableFaults.{is_alphanumeric, is_ascending, is_wrong_common, row_fault, faults_below, missing_below, first_fault, is_table}

-- a row after a row of the name `before`, or the first one after no bytes
abbrev pub is_good : List ℕ → Row → Bool
is_good before row = is_lt (slice_cmp nat_cmp before row.0) && (not (length row.0 == 0) && (is_alphanumeric row.0 && not (is_wrong_common row)))

abbrev pub are_good : List ℕ → List Row → Bool
are_good before [] = true
are_good before (row ∷ rows) = is_good before row && are_good row.0 rows

-- the name before a row
abbrev name_before : List ℕ → List Row → ℕ → List ℕ
name_before before rows zero = before
name_before before rows (suc i) = (row_at rows i).0

each_good : (before : List ℕ) (rows : List Row) (i : ℕ) → are_good before rows ≡ true → i < length rows → is_good (name_before before rows i) (row_at rows i) ≡ true
each_good before [] i good within = absurd (omega arith)
each_good before (row ∷ rows) zero good within = (and_parts (is_good before row) (are_good row.0 rows) good).0
each_good before (row ∷ rows) (suc zero) good within = each_good row.0 rows zero (and_parts (is_good before row) (are_good row.0 rows) good).1 (omega arith)
each_good before (row ∷ rows) (suc (suc i)) good within = each_good row.0 rows (suc i) (and_parts (is_good before row) (are_good row.0 rows) good).1 (omega arith)

false_of : (b : Bool) → not b ≡ true → b ≡ false
false_of true h = absurd (cc)
false_of false h = refl

none_of : (rows : List Row) (i : ℕ) → is_good (name_before [] rows i) (row_at rows i) ≡ true → nat_le 1 i && not (is_ascending rows i) ≡ false → row_fault rows i ≡ None
none_of rows i good in_order =
    let named = (and_parts _ _ good).1 in
    let lettered = (and_parts _ _ named).1 in
    let letters : is_alphanumeric (row_at rows i).0 ≡ true = (and_parts _ _ lettered).0 in
    let some : (length (row_at rows i).0 == 0) ≡ false = false_of _ (and_parts _ _ named).0 in
    let common : is_wrong_common (row_at rows i) ≡ false = false_of _ (and_parts _ _ lettered).1 in
    rw (some, letters, in_order, common) refl

unordered_not : (is_later ascends : Bool) → ascends ≡ true → is_later && not ascends ≡ false
unordered_not true ascends h = rw h refl
unordered_not false ascends h = refl

row_faultless : (rows : List Row) (i : ℕ) → is_good (name_before [] rows i) (row_at rows i) ≡ true → row_fault rows i ≡ None
row_faultless rows zero good = none_of rows zero good refl
row_faultless rows (suc i) good =
    let there : suc i - 1 ≡ i = omega arith in
    let after : is_lt (slice_cmp nat_cmp (row_at rows i).0 (row_at rows (suc i)).0) ≡ true = (and_parts _ _ good).0 in
    let ascends : is_ascending rows (suc i) ≡ true = rw there after in
    none_of rows (suc i) good (unordered_not (nat_le 1 (suc i)) (is_ascending rows (suc i)) ascends)

none_below : (rows : List Row) (n : ℕ) → are_good [] rows ≡ true → n ≤ length rows → faults_below rows n ≡ None
none_below rows zero good within = refl
none_below rows (suc n) good within =
    rw (none_below rows n good (omega arith), row_faultless rows n (each_good [] rows n good (omega arith))) refl

-- rows that are good one after another, and that have the common names, make a table
pub good_rows : (rows : List Row) → are_good [] rows ≡ true → missing_below rows (length common_rows) ≡ None → is_table rows ≡ true
good_rows rows good there =
    let below : faults_below rows (length rows) ≡ None = none_below rows (length rows) good (omega arith) in
    let none : first_fault rows ≡ None = rw (below, there) refl in
    rw none refl
