-- The names of a table's rows: none is empty, and each is of letters and digits.
use Rattle.std.proofs.Common.{ℕ, zero, suc, ◌≡◌, ◌++◌, ◌<◌, ◌≤◌, Bool, true, false, List, [], ◌∷◌, Some, None, ◌==◌, length, take, drop, refl, sym, ◌∙◌, arith}
use Rattle.std.specs.Prelude.{Option, ◌&&◌, not, nat_le, if◌then◌else◌}
use Rattle.std.specs.Char.{is_ascii_alphanumeric}
use Rattle.std.specs.Str.{bytes_eq}
use Rattle.std.proofs.lemmas.Bool.{and_parts}
use Rattle.std.proofs.lemmas.Bool.Decides.{nat_tests}
use Rattle.std.proofs.lemmas.List.{take-append-drop}
use Rattle.std.proofs.lemmas.List.Folds.{list_all-append}
use Rattle.std.proofs.lemmas.Slice.Eq.{bytes_eq-Decides}
use Rattle.hesc_specs.specs.References.Rows.{Row, row_at, value_of}
use Rattle.hesc_specs.specs.References.TableFaults.{faults_below, is_alphanumeric, is_ascending, is_table, is_wrong_common, row_fault}
use Rattle.hesc_specs.specs.declared.table_fault.TableFault.{TableFault}
use Rattle.hesc_specs.specs.declared.table_fault.TableFault.TheVariants.{EmptyName, BadName, NotAscending, WrongCommon}
use Rattle.hesc_specs.proofs.References.Tables.{first_fault-row, value_absent}

no_fault_at : (rows : List Row) (i : ℕ) → is_table rows ≡ true → i < length rows → faults_below rows i ≡ None → (found : Option TableFault) → row_fault rows i ≡ found → row_fault rows i ≡ None
no_fault_at rows i good within none None here = here
no_fault_at rows i good within none (Some fault) here = absurd (cc (rw (first_fault-row rows i fault within none here) at good))

none_below : (rows : List Row) (n : ℕ) → is_table rows ≡ true → n ≤ length rows → faults_below rows n ≡ None
none_below rows zero good within = refl
none_below rows (suc n) good within =
    let before : faults_below rows n ≡ None = none_below rows n good (omega arith) in
    rw (before, no_fault_at rows n good (omega arith) before _ refl) refl

named_tests : (i : ℕ) (is_empty is_bad is_unordered is_wrong : Bool)
    → (if is_empty then Some (EmptyName i) else (if is_bad then Some (BadName i) else (if is_unordered then Some (NotAscending i) else (if is_wrong then Some (WrongCommon i) else None)))) ≡ None
    → (is_empty ≡ false) × (is_bad ≡ false)
named_tests i true is_bad is_unordered is_wrong h = absurd (cc)
named_tests i false true is_unordered is_wrong h = absurd (cc)
named_tests i false false is_unordered is_wrong h = (refl, refl)

not_not : (b : Bool) → not b ≡ false → b ≡ true
not_not true h = refl
not_not false h = absurd (cc)

front_is_alphanumeric : (n : ℕ) (name : List ℕ) → is_alphanumeric name ≡ true → is_alphanumeric (take n name) ≡ true
front_is_alphanumeric n name all =
    let joined : is_alphanumeric (take n name ++ drop n name) ≡ true = rw (take-append-drop n name) all in
    (and_parts _ _ (sym (list_all-append is_ascii_alphanumeric (take n name) (drop n name)) ∙ joined)).0

front_is_some : (n : ℕ) (name : List ℕ) → (0 < length name → 0 < n) → (length name == 0) ≡ false → (length (take n name) == 0) ≡ false
front_is_some n [] more some = absurd (cc)
front_is_some zero (b ∷ name) more some = absurd (omega (arith, more (omega arith)))
front_is_some (suc n) (b ∷ name) more some = grind (arith, nat_tests)

-- a name whose front is empty, or has another byte, is in no table
module _ (n : ℕ) (name : List ℕ) (more : 0 < length name → 0 < n) (other : (not (length (take n name) == 0) && is_alphanumeric (take n name)) ≡ false) (rows : List Row) (good : is_table rows ≡ true) where
  not_in_row : (i : ℕ) → i < length rows → (row_at rows i).0 ≡ name → true ≡ false
  not_in_row i within same =
      let none : row_fault rows i ≡ None = no_fault_at rows i good within (none_below rows i good (omega arith)) _ refl in
      let tests = named_tests i (length (row_at rows i).0 == 0) (not (is_alphanumeric (row_at rows i).0)) (nat_le 1 i && not (is_ascending rows i)) (is_wrong_common (row_at rows i)) none in
      let some : (length (take n name) == 0) ≡ false = front_is_some n name more (rw same at tests.0) in
      let letters : is_alphanumeric (take n name) ≡ true = front_is_alphanumeric n name (rw same at (not_not _ tests.1)) in
      rw (some, letters) at other

  other_row : (i : ℕ) → i < length rows → (is : Bool) → bytes_eq (row_at rows i).0 name ≡ is → bytes_eq (row_at rows i).0 name ≡ false
  other_row i within false here = here
  other_row i within true here = absurd (cc (not_in_row i within ((bytes_eq-Decides (row_at rows i).0 name).0 here)))

  pub in_no_table : value_of rows name ≡ None
  in_no_table = value_absent rows name (λ i within. other_row i within _ refl)
