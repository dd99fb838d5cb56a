-- The first place of a byte in a source, from what a search of its rest finds.
use Rattle.std.proofs.Common.{◌≡◌, ℕ, ◌+◌, ◌-◌, ◌≤◌, Bool, true, false, List, length, take, drop, refl, ⊎_elim, arith}
use Rattle.std.specs.Prelude.{Some, None, slice_index}
use Rattle.std.proofs.lemmas.Bool.{cases_Bool}
use Rattle.std.proofs.lemmas.List.{get_or-drop, length-drop, take_all}
use Rattle.memchr.specs.Find.{IsFirstByte}
use Rattle.hesc_specs.specs.Text.FirstPlace.{IsFirstPlace}

module _ (test : ℕ → Bool) (bytes : List ℕ) (from : ℕ) (within : from ≤ length bytes) where
  -- the rest of the source, as a slice of it
  abbrev pub rest : List ℕ
  rest = take (length bytes - from) (drop from bytes)

  rest_is_drop : rest ≡ drop from bytes
  rest_is_drop = take_all (length bytes - from) (drop from bytes) (omega (arith, length-drop from bytes))

  rest_length : length rest ≡ length bytes - from
  rest_length = rw rest_is_drop (length-drop from bytes)

  rest_byte : (k : ℕ) → from ≤ k → slice_index rest (k - from) ≡ slice_index bytes k
  rest_byte k low = let there : from + (k - from) ≡ k = omega arith in rw (rest_is_drop, get_or-drop from bytes (k - from) 0, there) refl

  fails : (b : ℕ) → ¬ (test b ≡ true) → test b ≡ false
  fails b not_true = ⊎_elim (λ (yes : test b ≡ true). absurd (not_true yes)) (λ (no : test b ≡ false). no) (cases_Bool (test b))

  pub found_in_rest : (distance : ℕ) → IsFirstByte test rest (Some distance) → IsFirstPlace test bytes from (from + distance)
  found_in_rest distance h = record {
    ordered = omega arith;
    in_range = omega (arith, h.0.high, rest_length);
    before = λ k low below. fails (slice_index bytes k) (rw (← rest_byte k low) (h.0.before (k - from) (omega arith) (omega arith)));
    found = λ inside. let there : (from + distance) - from ≡ distance = omega arith in rw (← rest_byte (from + distance) (omega arith), there) h.1;
  }

  pub absent_in_rest : IsFirstByte test rest None → IsFirstPlace test bytes from (length bytes)
  absent_in_rest h = record {
    ordered = within;
    in_range = omega arith;
    before = λ k low below. fails (slice_index bytes k) (rw (← rest_byte k low) (h (k - from) (omega arith) (omega (arith, rest_length))));
    found = λ inside. absurd (omega arith);
  }
