-- A search by halving: which rows have lower and which have higher names.
use Rattle.std.proofs.Common.{◌≡◌, ◌≢◌, ℕ, ◌+◌, ◌<◌, ◌≤◌, List, [], Bor, Some, None, true, false, Less, Equal, Greater, Ordering, length, slice_index_or, refl, sym, ap, ◌∙◌, ⊎_elim, arith}
use Rattle.std.specs.Cmp.Lexicographic.{slice_cmp}
use Rattle.std.specs.Ordering.{is_eq, nat_cmp, ordering_reverse}
use Rattle.std.specs.Str.{bytes_eq}
use Rattle.std.proofs.lemmas.Bool.{cases_lt, cases_eq}
use Rattle.std.proofs.lemmas.Cmp.{nat_list_cmp_total}
use Rattle.std.proofs.lemmas.List.{get_or-map}
use Rattle.std.proofs.lemmas.Map.Text.{is_eq-slice_cmp}
use Rattle.std.proofs.lemmas.Slice.Eq.{bytes_eq-Decides}
use Rattle.hesc_specs.specs.References.Rows.{Row, row_at, value_of}
use Rattle.hesc_specs.specs.References.TableFaults.{is_table}
use Rattle.hesc_specs.proofs.References.Tables.{ascending, value_here, value_absent}
use Rattle.hesc_table.specs.Rows.{rows_in}

-- the rows before a place have lower names
abbrev pub Below : List Row → List ℕ → ℕ → Type 0
Below rows name low = (k : ℕ) → k < low → slice_cmp nat_cmp (row_at rows k).0 name ≡ Less

-- the rows from a place on have higher names
abbrev pub Above : List Row → List ℕ → ℕ → Type 0
Above rows name high = (k : ℕ) → high ≤ k → k < length rows → slice_cmp nat_cmp (row_at rows k).0 name ≡ Greater

-- a row that a program holds
abbrev pub stored : List (Bor (List ℕ) × Bor (List ℕ)) → ℕ → Bor (List ℕ) × Bor (List ℕ)
stored rows i = slice_index_or rows i (record { ref_ptr = (0, 0); now = [] }, record { ref_ptr = (0, 0); now = [] })

stored_row : (rows : List (Bor (List ℕ) × Bor (List ℕ))) (i : ℕ) → i < length rows → row_at (rows_in rows) i ≡ ((stored rows i).0.now, (stored rows i).1.now)
stored_row rows i within = get_or-map (λ (row : Bor (List ℕ) × Bor (List ℕ)). (row.0.now, row.1.now)) rows i (record { ref_ptr = (0, 0); now = [] }, record { ref_ptr = (0, 0); now = [] }) ([], []) within

pub stored_name : (rows : List (Bor (List ℕ) × Bor (List ℕ))) (i : ℕ) → i < length rows → (row_at (rows_in rows) i).0 ≡ (stored rows i).0.now
stored_name rows i within = ap (λ (row : Row). row.0) (stored_row rows i within)

pub stored_value : (rows : List (Bor (List ℕ) × Bor (List ℕ))) (i : ℕ) → i < length rows → (row_at (rows_in rows) i).1 ≡ (stored rows i).1.now
stored_value rows i within = ap (λ (row : Row). row.1) (stored_row rows i within)

other_name : (rows : List Row) (k : ℕ) (name : List ℕ) (order : Ordering) → slice_cmp nat_cmp (row_at rows k).0 name ≡ order → is_eq order ≡ false → bytes_eq (row_at rows k).0 name ≡ false
other_name rows k name order is other = sym (is_eq-slice_cmp (row_at rows k).0 name) ∙ (ap is_eq is ∙ other)

module _ (rows : List Row) (good : is_table rows ≡ true) (name : List ℕ) where
  -- the row in the middle has a lower name, and so have those before it
  pub Below-more : (middle : ℕ) → middle < length rows → slice_cmp nat_cmp (row_at rows middle).0 name ≡ Less → Below rows name (middle + 1)
  Below-more middle within lower k below =
      ⊎_elim
      (λ (here : k ≡ middle). rw here lower)
      (λ (before : k ≢ middle). nat_list_cmp_total.trans (row_at rows k).0 (row_at rows middle).0 name (ascending rows good k middle (omega arith) within) lower)
      (cases_eq k middle)

  -- it has a higher name, and so have those after it
  pub Above-more : (middle : ℕ) → slice_cmp nat_cmp (row_at rows middle).0 name ≡ Greater → Above rows name middle
  Above-more middle higher k from within =
      ⊎_elim
      (λ (here : k ≡ middle). rw here higher)
      (λ (after : k ≢ middle).
      let turned : slice_cmp nat_cmp name (row_at rows middle).0 ≡ Less = nat_list_cmp_total.antisymm name (row_at rows middle).0 ∙ ap ordering_reverse higher in
      let on : slice_cmp nat_cmp name (row_at rows k).0 ≡ Less =
      nat_list_cmp_total.trans name (row_at rows middle).0 (row_at rows k).0 turned (ascending rows good middle k (omega arith) within) in
      nat_list_cmp_total.antisymm (row_at rows k).0 name ∙ ap ordering_reverse on)
      (cases_eq k middle)

  -- a row has the name
  pub found_at : (i : ℕ) → i < length rows → bytes_eq (row_at rows i).0 name ≡ true → value_of rows name ≡ Some (row_at rows i).1
  found_at i within here =
      let same : (row_at rows i).0 ≡ name = (bytes_eq-Decides (row_at rows i).0 name).0 here in
      value_here rows i name within
      (λ k below. other_name rows k name Less (rw same at (ascending rows good k i below within)) refl) here

  -- the row in the middle has it
  pub found_in_middle : (middle : ℕ) → middle < length rows → slice_cmp nat_cmp (row_at rows middle).0 name ≡ Equal → value_of rows name ≡ Some (row_at rows middle).1
  found_in_middle middle within equal =
      found_at middle within (sym (is_eq-slice_cmp (row_at rows middle).0 name) ∙ ap is_eq equal)

  -- no row has the name
  pub nowhere : (low high : ℕ) → high ≤ low → Below rows name low → Above rows name high → value_of rows name ≡ None
  nowhere low high met below above =
      value_absent rows name (λ k within.
      ⊎_elim
      (λ (lower : k < low). other_name rows k name Less (below k lower) refl)
      (λ (higher : low ≤ k). other_name rows k name Greater (above k (omega arith) within) refl)
      (cases_lt k low))
