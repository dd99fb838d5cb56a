-- Where each row is what an index gives for its name, a name that another row is given for is in none.
use Rattle.std.proofs.Common.{◌≡◌, ℕ, ◌+◌, ◌<◌, zero, suc, List, [], ◌∷◌, Bool, true, false, Some, None, length, refl, subst, arith}
use Rattle.std.specs.Prelude.{Option}
use Rattle.std.specs.Str.{bytes_eq}
use Rattle.std.proofs.lemmas.Bool.{and_parts}
use Rattle.std.proofs.lemmas.Bool.Decides.{nat_tests}
use Rattle.std.proofs.lemmas.Slice.Eq.{bytes_eq-Decides}
use Rattle.hesc_specs.specs.References.Rows.{Row, row_at, value_of}
use Rattle.hesc_specs.proofs.References.Tables.{value_absent}
use Rattle.hesc_table.specs.Index.{are_candidates, candidate_of, is_candidate, is_index_of, seeds_of, slots_of}
use Rattle.hesc_table.specs.declared.index.NameIndex.{NameIndex}

candidate_is : (found : Option ℕ) (i : ℕ) → is_candidate found i ≡ true → found ≡ Some i
candidate_is None i is = absurd (cc)
candidate_is (Some k) i is = grind (arith, nat_tests)

module _ (seeds slots : List ℕ) where
  each_candidate : (i : ℕ) (rows : List Row) (k number : ℕ) → number ≡ i + k → are_candidates seeds slots i rows ≡ true → k < length rows → candidate_of seeds slots (row_at rows k).0 ≡ Some number
  each_candidate i [] k number is all within = absurd (omega arith)
  each_candidate i (row ∷ rows) zero number is all within =
      let same : i ≡ number = omega (arith, is) in
      subst (λ n. candidate_of seeds slots row.0 ≡ Some n) same (candidate_is _ i (and_parts _ _ all).0)
  each_candidate i (row ∷ rows) (suc k) number is all within = each_candidate (suc i) rows k number (omega (arith, is)) (and_parts _ _ all).1 (omega arith)

  module _ (rows : List Row) (name : List ℕ) (all : are_candidates seeds slots 0 rows ≡ true)
      (other : (k : ℕ) → k < length rows → candidate_of seeds slots name ≡ Some k → bytes_eq (row_at rows k).0 name ≡ false) where
    other_row : (k : ℕ) → k < length rows → (is : Bool) → bytes_eq (row_at rows k).0 name ≡ is → bytes_eq (row_at rows k).0 name ≡ false
    other_row k within false here = here
    other_row k within true here =
        let same : (row_at rows k).0 ≡ name = (bytes_eq-Decides (row_at rows k).0 name).0 here in
        other k within (rw same at (each_candidate 0 rows k k (omega arith) all within))

    pub missed : value_of rows name ≡ None
    missed = value_absent rows name (λ k within. other_row k within _ refl)

pub all_candidates : (is_complete : Bool) (index : NameIndex) (rows : List Row) → is_index_of is_complete index rows ≡ true → is_complete ≡ true → are_candidates (seeds_of index) (slots_of index) 0 rows ≡ true
unfolding is_index_of
all_candidates true index rows is complete = is
all_candidates false index rows is complete = absurd (cc)

-- nothing is known of an index that is not complete
pub not_complete : (index : NameIndex) (rows : List Row) → is_index_of false index rows ≡ true
unfolding is_index_of
not_complete index rows = refl

pub same_row : (found : Option ℕ) (a b : ℕ) → found ≡ Some a → found ≡ Some b → a ≡ b
same_row found a b one other = cc (one, other)

pub no_row : (found : Option ℕ) (k : ℕ) (is : Bool) → found ≡ None → found ≡ Some k → is ≡ false
no_row found k is none some = absurd (cc (none, some))
