-- What holds of rows that have no fault: their names ascend, and the common names have their values.
use Rattle.std.proofs.Common.{ℕ, zero, suc, ◌≡◌, ◌≢◌, ◌+◌, ◌-◌, ◌<◌, Bool, true, false, ◌&&◌, not, List, [], ◌∷◌, Option, Some, None, Ordering, Less, length, nat_le, is_none, if◌then◌else◌, refl, ap, sym, ⊎_elim, arith}
use Rattle.std.specs.Cmp.Lexicographic.{slice_cmp}
use Rattle.std.specs.Option.{option_or}
use Rattle.std.specs.Ordering.{is_lt, nat_cmp}
use Rattle.std.specs.Str.{bytes_eq}
use Rattle.std.proofs.lemmas.Bool.{cases_Bool, cases_eq}
use Rattle.std.proofs.lemmas.Bool.Decides.{nat_tests}
use Rattle.std.proofs.lemmas.Cmp.{nat_list_cmp_total}
use Rattle.std.proofs.lemmas.Slice.Eq.{bytes_eq-Decides}
use Rattle.hesc_specs.specs.References.Rows.{Row, row_at, value_of, common_rows}
use Rattle.hesc_specs.specs.References.TableFaults.{is_ascending, is_wrong_common, row_fault, faults_below, missing_below, first_fault, is_table}
use Rattle.hesc_specs.specs.declared.table_fault.TableFault.{TableFault}
use Rattle.hesc_specs.specs.declared.table_fault.TableFault.TheVariants.{EmptyName, BadName, NotAscending, WrongCommon, MissingCommon}

is_none-None : {A : Type 0} (found : Option A) → is_none found ≡ true → found ≡ None
is_none-None found h = grind (arith, nat_tests)

option_or-first : (a b : Option TableFault) → option_or a b ≡ None → a ≡ None
option_or-first a b h = grind (arith, nat_tests)

option_or-second : (a b : Option TableFault) → option_or a b ≡ None → b ≡ None
option_or-second a b h = grind (arith, nat_tests)

-- a row among the first that have no fault has none
row_among : (rows : List Row) (n i : ℕ) → faults_below rows n ≡ None → i < n → row_fault rows i ≡ None
row_among rows zero i h below = absurd (omega arith)
row_among rows (suc n) i h below =
    ⊎_elim
    (λ (last : i ≡ n). rw last (option_or-second (faults_below rows n) (row_fault rows n) h))
    (λ (other : i ≢ n). row_among rows n i (option_or-first (faults_below rows n) (row_fault rows n) h) (omega arith))
    (cases_eq i n)

-- the fault of a row after faultless ones is the first, whatever comes later
faults_stay : (rows : List Row) (i n : ℕ) (fault : TableFault) → faults_below rows i ≡ None → row_fault rows i ≡ Some fault → faults_below rows (i + suc n) ≡ Some fault
faults_stay rows i zero fault none here = let next : i + 1 ≡ suc i = omega arith in rw (next, none, here) refl
faults_stay rows i (suc n) fault none here =
    let next : i + suc (suc n) ≡ suc (i + suc n) = omega arith in
    rw (next, faults_stay rows i n fault none here) refl

pub first_fault-row : (rows : List Row) (i : ℕ) (fault : TableFault) → i < length rows → faults_below rows i ≡ None → row_fault rows i ≡ Some fault → first_fault rows ≡ Some fault
first_fault-row rows i fault within none here =
    let there : i + suc (length rows - suc i) ≡ length rows = omega arith in
    let found : faults_below rows (length rows) ≡ Some fault = rw there at (faults_stay rows i (length rows - suc i) fault none here) in
    rw found refl

missing_here : (found : Option (List ℕ)) (n : ℕ) → (if is_none found then Some (MissingCommon n) else None) ≡ None → is_none found ≡ false
missing_here found n h = grind (arith, nat_tests)

-- a common name among the first that are there is there
name_among : (rows : List Row) (n k : ℕ) → missing_below rows n ≡ None → k < n → is_none (value_of rows (row_at common_rows k).0) ≡ false
name_among rows zero k h below = absurd (omega arith)
name_among rows (suc n) k h below =
    ⊎_elim
    (λ (last : k ≡ n). rw last (missing_here (value_of rows (row_at common_rows n).0) n (option_or-second (missing_below rows n) _ h)))
    (λ (other : k ≢ n). name_among rows n k (option_or-first (missing_below rows n) _ h) (omega arith))
    (cases_eq k n)

-- a row that has none of the four faults
record Faultless (rows : List Row) (i : ℕ) : Type 0 where
  pub ascends : nat_le 1 i && not (is_ascending rows i) ≡ false
  pub common : is_wrong_common (row_at rows i) ≡ false

faultless_tests : (i : ℕ) (is_empty is_bad is_unordered is_wrong : Bool)
    → (if is_empty then Some (EmptyName i) else (if is_bad then Some (BadName i) else (if is_unordered then Some (NotAscending i) else (if is_wrong then Some (WrongCommon i) else None)))) ≡ None
    → (is_unordered ≡ false) × (is_wrong ≡ false)
faultless_tests i is_empty is_bad is_unordered is_wrong h = grind (arith, nat_tests)

faultless : (rows : List Row) (i : ℕ) → row_fault rows i ≡ None → Faultless rows i
faultless rows i h = grind (arith, nat_tests, faultless_tests, not, nat_le)

is_lt-Less : (order : Ordering) → is_lt order ≡ true → order ≡ Less
is_lt-Less order h = grind (arith, nat_tests)

not_not : (b : Bool) → not b ≡ false → b ≡ true
not_not b h = grind (arith, nat_tests)

-- the row in which a value was found
pub value_row : (rows : List Row) (name value : List ℕ) → value_of rows name ≡ Some value → (i : ℕ) × (i < length rows) × (row_at rows i ≡ (name, value))
value_row [] name value h = absurd (cc)
value_row (row ∷ rows) name value h =
    ⊎_elim
    (λ (here : bytes_eq row.0 name ≡ true).
    let same : row.0 ≡ name = (bytes_eq-Decides row.0 name).0 here in
    let found : Some row.1 ≡ Some value = rw here at h in
    let is : row.1 ≡ value = cc in
    let first : 0 < length (row ∷ rows) = omega arith in
    let pair : row ≡ (name, value) = λ i. (same i, is i) in
    (0, first, pair))
    (λ (not_here : bytes_eq row.0 name ≡ false).
    let later : value_of rows name ≡ Some value = rw not_here at h in
    let found = value_row rows name value later in
    let within : suc found.0 < length (row ∷ rows) = omega (arith, found.1) in
    (suc found.0, within, found.2))
    (cases_Bool (bytes_eq row.0 name))

-- the first row of a name has its value
pub value_here : (rows : List Row) (i : ℕ) (name : List ℕ) → i < length rows → ((k : ℕ) → k < i → bytes_eq (row_at rows k).0 name ≡ false)
    → bytes_eq (row_at rows i).0 name ≡ true → value_of rows name ≡ Some (row_at rows i).1
value_here [] i name within before here = absurd (omega arith)
value_here (row ∷ rows) zero name within before here = rw here refl
value_here (row ∷ rows) (suc i) name within before here =
    rw (before 0 (omega arith)) (value_here rows i name (omega arith) (λ k below. before (suc k) (omega arith)) here)

-- a name that no row has
pub value_absent : (rows : List Row) (name : List ℕ) → ((k : ℕ) → k < length rows → bytes_eq (row_at rows k).0 name ≡ false) → value_of rows name ≡ None
value_absent [] name none = refl
value_absent (row ∷ rows) name none = rw (none 0 (omega arith)) (value_absent rows name (λ k below. none (suc k) (omega arith)))

module _ (rows : List Row) (good : is_table rows ≡ true) where
  no_fault : first_fault rows ≡ None
  no_fault = is_none-None (first_fault rows) good

  each_faultless : (i : ℕ) → i < length rows → Faultless rows i
  each_faultless i within = faultless rows i (row_among rows (length rows) i (option_or-first (faults_below rows (length rows)) _ no_fault) within)

  -- a name is below that of the next row
  next_ascends : (i : ℕ) → i + 1 < length rows → slice_cmp nat_cmp (row_at rows i).0 (row_at rows (i + 1)).0 ≡ Less
  next_ascends i within =
      let there : (i + 1) - 1 ≡ i = omega arith in
      let later : nat_le 1 (i + 1) ≡ true = grind (arith, nat_tests) in
      let ascends : not (is_ascending rows (i + 1)) ≡ false = rw later at (each_faultless (i + 1) within).ascends in
      rw there at (is_lt-Less _ (not_not (is_ascending rows (i + 1)) ascends))

  ascends_by : (i n : ℕ) → i + suc n < length rows → slice_cmp nat_cmp (row_at rows i).0 (row_at rows (i + suc n)).0 ≡ Less
  ascends_by i zero within = next_ascends i within
  ascends_by i (suc n) within =
      let step : (i + 1) + suc n ≡ i + suc (suc n) = omega arith in
      let rest : slice_cmp nat_cmp (row_at rows (i + 1)).0 (row_at rows (i + suc (suc n))).0 ≡ Less = rw step at (ascends_by (i + 1) n (omega arith)) in
      nat_list_cmp_total.trans (row_at rows i).0 (row_at rows (i + 1)).0 (row_at rows (i + suc (suc n))).0 (next_ascends i (omega arith)) rest

  -- the names ascend
  pub ascending : (i j : ℕ) → i < j → j < length rows → slice_cmp nat_cmp (row_at rows i).0 (row_at rows j).0 ≡ Less
  ascending i j below within =
      let there : i + suc (j - suc i) ≡ j = omega arith in
      rw there at (ascends_by i (j - suc i) (omega arith))

  -- the value of a common name, if it has one, is the common one
  found_is_common : (name value : List ℕ) (found : Option (List ℕ)) → value_of common_rows name ≡ Some value → value_of rows name ≡ found → is_none found ≡ false → found ≡ Some value
  found_is_common name value None is_common is_found there = absurd (cc)
  found_is_common name value (Some other) is_common is_found there =
      let row = value_row rows name other is_found in
      let fault : is_wrong_common (row_at rows row.0) ≡ false = (each_faultless row.0 row.1).common in
      let same : not (bytes_eq value other) ≡ false = rw (row.2, is_common) at fault in
      ap Some (sym ((bytes_eq-Decides value other).0 (not_not (bytes_eq value other) same)))

  -- a common name has its value
  pub common_value : (k : ℕ) (name value : List ℕ) → k < length common_rows → (row_at common_rows k).0 ≡ name → value_of common_rows name ≡ Some value → value_of rows name ≡ Some value
  common_value k name value below is_name is_common =
      let there : is_none (value_of rows name) ≡ false =
      rw is_name at (name_among rows (length common_rows) k (option_or-second (faults_below rows (length rows)) (missing_below rows (length common_rows)) no_fault) below) in
      found_is_common name value (value_of rows name) is_common refl there
