-- A search that goes from `<` to `<` misses no place at which a test of what begins there passes.
use Rattle.std.proofs.Common.{◌≡◌, ℕ, ◌+◌, ◌≤◌, ◌<◌, Bool, true, false, List, ◌∷◌, ◌==◌, length, drop, arith, inl, inr}
use Rattle.std.proofs.lemmas.Bool.Decides.{nat_tests}
use Rattle.std.specs.Prelude.{slice_index}
use Rattle.std.proofs.lemmas.Bool.{cases_lt}
use Rattle.std.proofs.lemmas.List.{drop_more}
use Rattle.hesc_specs.specs.Text.Ascii.{less_than}
use Rattle.hesc_specs.specs.Text.FirstPlace.{IsFirstPlace}

-- the test passes at no place from one up to another
abbrev pub Nowhere : (List ℕ → Bool) → List ℕ → ℕ → ℕ → Type 0
Nowhere begins bytes from place = (k : ℕ) → from ≤ k → k < place → begins (drop k bytes) ≡ false

-- what begins with another byte than `<` does not pass
abbrev pub NeedsLessThan : (List ℕ → Bool) → Type 0
NeedsLessThan begins = (b : ℕ) (bytes : List ℕ) → (b == less_than) ≡ false → begins (b ∷ bytes) ≡ false

-- a place whose byte is `<`
pub at_less_than : (bytes : List ℕ) (place : ℕ) → place < length bytes → (slice_index bytes place == less_than) ≡ true → drop place bytes ≡ less_than ∷ drop (place + 1) bytes
at_less_than bytes place within is = grind (arith, nat_tests, drop_more)

-- the search goes on to the next `<`
pub further : (begins : List ℕ → Bool) → NeedsLessThan begins → (bytes : List ℕ) (from reached place : ℕ) → Nowhere begins bytes from reached
    → IsFirstPlace (λ b. b == less_than) bytes reached place → Nowhere begins bytes from place
further begins needs bytes from reached place none first k after below =
    elim (cases_lt k reached) [
      | inl earlier ↦ none k after earlier
      | inr later ↦
          rw (drop_more bytes k 0 (omega (arith, first.in_range)))
          (needs (slice_index bytes k) (drop (k + 1) bytes) (first.before k later below))
    ]

-- and past a `<` that was tried
pub past : (begins : List ℕ → Bool) (bytes : List ℕ) (from place : ℕ) → place < length bytes → (slice_index bytes place == less_than) ≡ true
    → Nowhere begins bytes from place → begins (less_than ∷ drop (place + 1) bytes) ≡ false → Nowhere begins bytes from (place + 1)
past begins bytes from place within is none fails k after below = grind (arith, nat_tests, cases_lt, at_less_than)
