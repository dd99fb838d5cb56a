-- Stretches of a source, and its rest, one byte further.
use Rattle.std.proofs.Common.{◌≡◌, ℕ, ◌+◌, ◌-◌, ◌≤◌, List, [], ◌∷◌, ◌++◌, length, take, drop, refl, sym, ◌∙◌, arith}
use Rattle.std.proofs.lemmas.Bool.Decides.{nat_tests}
use Rattle.std.specs.Prelude.{slice_range}
use Rattle.std.proofs.lemmas.List.{drop-drop}
use Rattle.std.proofs.Math.Seq.{take-add, take-append_seam}

-- the stretch up to some bytes further
pub slice_range-further : (source : List ℕ) (from at : ℕ) (more bytes : List ℕ) → from ≤ at → drop at source ≡ more ++ bytes
    → slice_range source from (at + length more) ≡ slice_range source from at ++ more
slice_range-further source from at more bytes ordered is =
    let count : (at + length more) - from ≡ (at - from) + length more = omega arith in
    let there : from + (at - from) ≡ at = omega arith in
    let front : take ((at - from) + length more) (drop from source) ≡ take (at - from) (drop from source) ++ take (length more) (drop (at - from) (drop from source)) =
    take-add (at - from) (length more) (drop from source) in
    let rest : drop (at - from) (drop from source) ≡ more ++ bytes = drop-drop (at - from) from source ∙ rw there is in
    rw count (front ∙ rw (rest, take-append_seam more bytes) refl)

-- the stretch up to one byte further
pub slice_range-more : (source : List ℕ) (from at b : ℕ) (bytes : List ℕ) → from ≤ at → drop at source ≡ b ∷ bytes → slice_range source from (at + 1) ≡ slice_range source from at ++ b ∷ []
slice_range-more source from at b bytes ordered is = grind (arith, nat_tests, take-add, drop-drop)

-- the rest from one byte further on
pub drop-next : (source : List ℕ) (at b : ℕ) (bytes : List ℕ) → drop at source ≡ b ∷ bytes → drop (at + 1) source ≡ bytes
drop-next source at b bytes is = sym (drop-drop 1 at source) ∙ rw is refl

-- there is nothing from a place to itself
pub slice_range-nothing : (source : List ℕ) (at : ℕ) → slice_range source at at ≡ []
slice_range-nothing source at = let nothing : at - at ≡ 0 = omega arith in rw nothing refl
