-- The references that have a value, each judged by itself.
use Rattle.std.proofs.Common.{◌≡◌, ℕ, ◌+◌, ◌<◌, true, false, List, [], Option, Some, None, length, drop, slice_index, refl, ◌∙◌, arith, inl, inr}
use Rattle.std.specs.Prelude.{is_some, slice_range}
use Rattle.std.proofs.lemmas.Bool.{cases_Bool}
use Rattle.std.proofs.lemmas.List.{drop_more}
use Rattle.std.proofs.Math.Bool.{and-false}
use Rattle.hesc_specs.specs.Text.Changes.{Change}
use Rattle.hesc_specs.specs.Text.FirstPlace.{IsFirstAt, IsFirstPlace}
use Rattle.hesc_specs.specs.References.Changes.{reference_changes, refers_at, with_reference}
use Rattle.hesc_specs.specs.References.Decoding.{body_of, body_value, reference_value}
use Rattle.hesc_specs.specs.References.Rows.{Row}
use Rattle.hesc_specs.proofs.References.Next.{body_of-cut, body_of-ended, body_of-unended, is_start, is_stop, none_at_end, skipped}
use Rattle.hesc_specs.proofs.Text.EachPlace.{skips}

pub is_none : {A : Type 0} (found : Option A) → is_some found ≡ false → found ≡ None
is_none None is = refl
is_none (Some x) is = absurd (cc)

kept : (at : ℕ) (body : Option (List ℕ)) (later : List Change) → with_reference at body None later ≡ later
kept at None later = refl
kept at (Some body) later = refl

module _ (rows : List Row) (source : List ℕ) where
  -- a reference without a value changes nothing
  pub step : (k : ℕ) → k < length source → refers_at rows source k ≡ false → reference_changes rows source k ≡ reference_changes rows source (k + 1)
  step k within is = elim (cases_Bool (is_start (slice_index source k))) [
    | inl start ↦ rw (drop_more source k 0 within, start, is_none (reference_value rows (drop (k + 1) source)) (rw start at is)) (kept k (body_of (drop (k + 1) source)) (reference_changes rows source (k + 1)))
    | inr other ↦ skipped rows source k (k + 1) (omega arith) (omega (arith, within)) (λ j after below. let there : j ≡ k = omega (arith, after, below) in rw there other)
  ]

  pub none_left : (from : ℕ) → IsFirstAt (refers_at rows source) from (length source) (length source) → reference_changes rows source from ≡ []
  none_left from none = skips (refers_at rows source) (reference_changes rows source) (length source) step from (length source) none ∙ none_at_end rows source (length source) refl

  -- by what stands at the next stop after a `&`
  module _ (place end : ℕ) (first : IsFirstPlace is_stop source (place + 1) end) where
    pub unended : end ≡ length source → refers_at rows source place ≡ false
    unended is_end = rw (body_of-unended source (place + 1) end first is_end) (and-false _)

    pub cut : end < length source → is_start (slice_index source end) ≡ true → refers_at rows source place ≡ false
    cut inner start = rw (body_of-cut source (place + 1) end first inner start) (and-false _)

    pub unvalued : end < length source → is_start (slice_index source end) ≡ false → body_value rows (slice_range source (place + 1) end) ≡ None → refers_at rows source place ≡ false
    unvalued inner ends none = rw (body_of-ended source (place + 1) end first inner ends, none) (and-false _)

    pub valued : is_start (slice_index source place) ≡ true → end < length source → is_start (slice_index source end) ≡ false → (value : List ℕ) → body_value rows (slice_range source (place + 1) end) ≡ Some value
        → refers_at rows source place ≡ true
    valued start inner ends value is = rw (start, body_of-ended source (place + 1) end first inner ends, is) refl
