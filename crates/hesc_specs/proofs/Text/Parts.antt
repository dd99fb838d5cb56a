-- The parts of a changed source, joined, are the source with the changes made, and they are few.
use Rattle.std.proofs.Common.{◌≡◌, ℕ, ◌+◌, ◌-◌, ◌*◌, ◌≤◌, List, [], ◌∷◌, ◌++◌, Bool, true, false, length, drop, refl, sym, ◌∙◌, arith, length-append}
use Rattle.std.specs.Prelude.{slice_range, nat_lt, if◌then◌else◌}
use Rattle.std.proofs.lemmas.List.{append-nil, take_all, length-drop}
use Rattle.std.proofs.lemmas.Grind.{flat_map-append}
use Rattle.std.proofs.lemmas.Bool.Decides.{nat_tests}
use Rattle.hesc_specs.specs.Text.Changes.{Change, applied}
use Rattle.hesc_specs.specs.Text.Parts.{kept, part_bytes, stretch, renewed, parts, joined}

stretch_if-joined : (b : Bool) (start : ℕ) (bytes : List ℕ) → (b ≡ false → bytes ≡ []) → joined (if b then kept start bytes ∷ [] else []) ≡ bytes
stretch_if-joined true start bytes empty = append-nil bytes
stretch_if-joined false start bytes empty = sym (empty refl)

no_stretch : (source : List ℕ) (start end : ℕ) → nat_lt start end ≡ false → slice_range source start end ≡ []
no_stretch source start end is = let none : end - start ≡ 0 = grind (arith, nat_tests, is) in rw none refl

pub stretch-joined : (source : List ℕ) (start end : ℕ) → joined (stretch source start end) ≡ slice_range source start end
stretch-joined source start end = stretch_if-joined (nat_lt start end) start (slice_range source start end) (no_stretch source start end)

pub rest-joined : (source : List ℕ) (from : ℕ) → slice_range source from (length source) ≡ drop from source
rest-joined source from = take_all _ (drop from source) (omega (arith, length-drop from source))

renewed-joined : (bytes : List ℕ) → joined (renewed bytes) ≡ bytes
renewed-joined [] = refl
renewed-joined (b ∷ bytes) = append-nil (b ∷ bytes)

pub parts-joined : (source : List ℕ) (from : ℕ) (changes : List Change) → joined (parts source from changes) ≡ applied source from changes
parts-joined source from [] = stretch-joined source from (length source) ∙ rest-joined source from
parts-joined source from (c ∷ cs) =
    let first : joined (stretch source from c.start ++ (renewed c.bytes ++ parts source c.end cs)) ≡ joined (stretch source from c.start) ++ joined (renewed c.bytes ++ parts source c.end cs) =
    flat_map-append part_bytes (stretch source from c.start) (renewed c.bytes ++ parts source c.end cs) in
    let second : joined (renewed c.bytes ++ parts source c.end cs) ≡ joined (renewed c.bytes) ++ joined (parts source c.end cs) = flat_map-append part_bytes (renewed c.bytes) (parts source c.end cs) in
    cc (stretch-joined source from c.start, renewed-joined c.bytes, parts-joined source c.end cs)

stretch_if-few : (b : Bool) (start : ℕ) (bytes : List ℕ) → length (if b then kept start bytes ∷ [] else []) ≤ 1
stretch_if-few b start bytes = grind (arith, nat_tests)

renewed-few : (bytes : List ℕ) → length (renewed bytes) ≤ 1
renewed-few bytes = grind (arith, nat_tests)

pub parts-few : (source : List ℕ) (from : ℕ) (changes : List Change) → length (parts source from changes) ≤ 2 * length changes + 1
parts-few source from [] = stretch_if-few (nat_lt from (length source)) from (slice_range source from (length source))
parts-few source from (c ∷ cs) =
    let kept_few : length (stretch source from c.start) ≤ 1 = stretch_if-few (nat_lt from c.start) from (slice_range source from c.start) in
    simp length-append (omega (arith, kept_few, renewed-few c.bytes, parts-few source c.end cs))
