-- Changes that begin at each place by what stands there alone.
use Rattle.std.proofs.Common.{◌≡◌, ℕ, zero, suc, add-zero, ◌+◌, ◌-◌, ◌≤◌, ◌<◌, Bool, false, List, ◌∙◌, refl, arith}
use Rattle.hesc_specs.specs.Text.Changes.{Change}
use Rattle.hesc_specs.specs.Text.FirstPlace.{IsFirstAt}

-- where none begins at a place, the changes from there on are those from the next place on
module _ (begins_at : ℕ → Bool) (changes_from : ℕ → List Change) (end : ℕ) (step : (k : ℕ) → k < end → begins_at k ≡ false → changes_from k ≡ changes_from (k + 1)) where
  skips-many : (from n : ℕ) → from + n ≤ end → ((k : ℕ) → from ≤ k → k < from + n → begins_at k ≡ false) → changes_from from ≡ changes_from (from + n)
  skips-many from zero within before = rw add-zero refl
  skips-many from (suc n) within before =
      let there : (from + 1) + n ≡ from + suc n = omega arith in
      step from (omega arith) (before from (omega arith) (omega arith))
      ∙ rw there at (skips-many (from + 1) n (omega arith) (λ k after below. before k (omega arith) (omega arith)))

  pub skips : (from at : ℕ) → IsFirstAt begins_at from end at → changes_from from ≡ changes_from at
  skips from at first =
      let there : from + (at - from) ≡ at = omega (arith, first.ordered) in
      rw there at (skips-many from (at - from) (omega (arith, first.ordered, first.in_range)) (λ k after below. first.before k after (omega (arith, below, first.ordered))))
