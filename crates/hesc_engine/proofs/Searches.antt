-- The next change, from the first hit at which one begins, and the source from a place on where sought bytes become texts of a table.
use Rattle.std.proofs.Common.{◌≡◌, ◌≤◌, ◌<◌, ◌+◌, ℕ, Bool, false, true, List, [], length, slice_index, arith, ap, refl, subst, inl, inr}
use Rattle.std.proofs.lemmas.Bool.{cases_lt, false_from_ne_true}
use Rattle.std.specs.Str.{IsCharBoundary, IsUtf8}
use Rattle.hesc_specs.specs.Text.Changes.{Change, applied}
use Rattle.hesc_specs.specs.Text.FirstPlace.{IsFirstAt, IsFirstPlace}
use Rattle.hesc_sinks.specs.AsciiRows.{Rows, text_at}
use Rattle.hesc_sinks.specs.Hits.{Replaces}
use Rattle.hesc_sinks.specs.declared.found.Replacement.TheVariants.{Borrowed}
use Rattle.hesc_engine.specs.Rules.{BeginsAtSought, EndsWhereNoneBegins, ReplacesByRows}

-- no change begins where no byte is sought
pub none_unsought : (begins_at : List ℕ → ℕ → Bool) (is_sought : ℕ → Bool) → BeginsAtSought begins_at is_sought → (source : List ℕ) (k : ℕ) → is_sought (slice_index source k) ≡ false → begins_at source k ≡ false
none_unsought begins_at is_sought begins source k unsought =
    false_from_ne_true _ (λ is. let sought = (begins source k is).1 in let clash : false ≡ true = rw unsought at sought in absurd (cc))

-- none begins up to where the search had come, and none from there up to the next hit
pub first_begins : (begins_at : List ℕ → ℕ → Bool) (is_sought : ℕ → Bool) → BeginsAtSought begins_at is_sought → (source : List ℕ) (from reached place : ℕ) → from ≤ reached
    → ((k : ℕ) → from ≤ k → k < reached → begins_at source k ≡ false) → IsFirstPlace is_sought source reached place
    → (place < length source → begins_at source place ≡ true) → IsFirstAt (begins_at source) from (length source) place
first_begins begins_at is_sought begins source from reached place ordered earlier first found = record {
  ordered = omega (arith, ordered, first.ordered);
  in_range = first.in_range;
  before = λ k from_k below. elim (cases_lt k reached) [
    | inl front ↦ earlier k from_k front
    | inr following ↦ none_unsought begins_at is_sought begins source k (first.before k following below)
  ];
  found = found;
}

-- none begins before a hit, nor at one where none begins
pub none_through : (begins_at : List ℕ → ℕ → Bool) (is_sought : ℕ → Bool) → BeginsAtSought begins_at is_sought → (source : List ℕ) (from place : ℕ) → IsFirstPlace is_sought source from place → begins_at source place ≡ false
    → (k : ℕ) → from ≤ k → k < place + 1 → begins_at source k ≡ false
none_through begins_at is_sought begins source from place first here k after through =
    elim (cases_lt k place) [
      | inl before ↦ none_unsought begins_at is_sought begins source k (first.before k after before)
      | inr following ↦ subst (λ i. begins_at source i ≡ false) (omega (arith, through, following)) here
    ]

-- the source from a place on, with the changes made, in the words of sinks
pub replaces_all : (rows : Rows) (begins_at : List ℕ → ℕ → Bool) (is_sought : ℕ → Bool) (changes_from : List ℕ → ℕ → List Change) → BeginsAtSought begins_at is_sought → ReplacesByRows rows begins_at is_sought changes_from
    → (source : List ℕ) → IsUtf8 source → Replaces rows is_sought source (λ from. applied source from (changes_from source from))
replaces_all rows begins_at is_sought changes_from begins replaces source text = record {
  at_first = λ from place boundary first within ascii has.
      let new = text_at rows (slice_index source place) in
      let replaced = replaces source text place within (first.found within) has (Borrowed record { ref_ptr = (0, 0); now = new }) refl in
      let next = replaced.next from boundary (first_begins begins_at is_sought begins source from from place (omega arith) (λ k after below. absurd (omega (arith, after, below))) first (λ _. replaced.begins)) in
      ap (applied source from) next.changes;
}

-- where no byte of a source is sought, nothing changes
pub none_sought : (begins_at : List ℕ → ℕ → Bool) (is_sought : ℕ → Bool) (changes_from : List ℕ → ℕ → List Change) → BeginsAtSought begins_at is_sought → EndsWhereNoneBegins begins_at changes_from
    → (source : List ℕ) → IsUtf8 source → (from : ℕ) → IsCharBoundary source from → IsFirstPlace is_sought source from (length source) → changes_from source from ≡ []
none_sought begins_at is_sought changes_from begins ends source text from boundary none =
    ends source text from boundary (first_begins begins_at is_sought begins source from from (length source) (omega arith) (λ k after below. absurd (omega (arith, after, below))) none (λ below. absurd (omega (arith, below))))
