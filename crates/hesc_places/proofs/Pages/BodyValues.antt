-- The value of a script's body is its bytes, up to its end.
use Rattle.std.proofs.Common.{ℕ, suc, ◌≡◌, ◌<◌, ◌+◌, List, [], ◌∷◌, Option, Some, None, length, take, refl, sym, ap, arith, inl, inr}
use Rattle.std.proofs.lemmas.Bool.{cases_Bool}
use Rattle.std.specs.Option.{option_map}
use Rattle.hesc_grammars.specs.declared.step.Mode.{Mode}
use Rattle.hesc_grammars.specs.declared.step.Mode.TheVariants.{Plain}
use Rattle.hesc_grammars.specs.declared.place.Place.TheVariants.{ScriptBody}
use Rattle.hesc_grammars.specs.Bodies.{ends_script, mode_after, script_body_step}
use Rattle.hesc_grammars.specs.Places.{end_of, reading}
use Rattle.hesc_grammars.specs.Reading.{after, reading_after}

-- the value is the bytes up to the end, which is one of them
pub record IsBytes (bytes : List ℕ) (found : List ℕ × ℕ) : Type 0 where
  pub value : found.0 ≡ take found.1 bytes
  pub within : found.1 < length bytes

with_byte : (b : ℕ) (bytes : List ℕ) (found : List ℕ × ℕ) (later : Option (List ℕ × ℕ)) →
    ((next : List ℕ × ℕ) → later ≡ Some next → IsBytes bytes next) → after (b ∷ []) 1 later ≡ Some found → IsBytes (b ∷ bytes) found
with_byte b bytes found None are is = absurd (cc)
with_byte b bytes found (Some next) are is =
    let here = are next refl in
    let same : (b ∷ next.0, 1 + next.1) ≡ found = cc in
    let one : 1 + next.1 ≡ suc next.1 = omega arith in
    rw (sym same) record { value = rw (one, here.value) refl; within = omega (arith, here.within) }

pub body_bytes : (mode : Mode) (bytes : List ℕ) (found : List ℕ × ℕ) → reading_after script_body_step 0 mode bytes ≡ Some found → IsBytes bytes found
unfolding script_body_step
body_bytes mode [] found is = absurd (cc)
body_bytes mode (b ∷ bytes) found is = elim (cases_Bool (ends_script mode (b ∷ bytes))) [
  | inl ends ↦
      let here : Some ([], 0) ≡ Some found = rw ends at is in
      let same : ([], 0) ≡ found = cc in
      rw (sym same) record { value = refl; within = omega arith }
  | inr goes_on ↦
      let next : Mode = mode_after mode (b ∷ bytes) in
      with_byte b bytes found (reading_after script_body_step 0 next bytes) (body_bytes next bytes) (rw goes_on at is)
]

body_found : (bytes : List ℕ) (end : ℕ) (found : Option (List ℕ × ℕ)) → reading ScriptBody bytes ≡ found → Some end ≡ option_map end_of found →
    (found ≡ Some (take end bytes, end)) × (end < length bytes)
body_found bytes end None is ends = absurd (cc)
body_found bytes end (Some found) is ends =
    let are = body_bytes Plain bytes found is in
    let same : end ≡ found.1 = cc in
    rw same (ap (λ value. Some (value, found.1)) are.value, are.within)

-- so its end tells the whole reading
pub body_of_end : (bytes : List ℕ) (end : ℕ) → Some end ≡ option_map end_of (reading ScriptBody bytes) →
    (reading ScriptBody bytes ≡ Some (take end bytes, end)) × (end < length bytes)
body_of_end bytes end ends = body_found bytes end (reading ScriptBody bytes) refl ends
