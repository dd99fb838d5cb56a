use Rattle.std.proofs.Common.{◌≡◌, ◌≢◌, ◌∙◌, ℕ, Bool, true, false, List, [], ◌∷◌, ap, refl, sym, length, drop, arith, append-nil, length-drop, take_all}
use Rattle.std.specs.Prelude.{if◌then◌else◌, nat_lt, slice_range}
use Rattle.std.proofs.lemmas.Bool.Decides.{nat_tests}
use Rattle.std.proofs.lemmas.List.{nil_from_length}
use Rattle.hesc_specs.specs.Text.Parts.{kept, stretch}
use Rattle.hesc_engine.specs.Pieces.{kept_unless_empty}
use Rattle.hesc_engine.proofs.pieces.Pieces.segment.Goals as goal

stretch_if : (b : Bool) (at : ℕ) (bytes : List ℕ) → (b ≡ false → bytes ≡ []) → (b ≡ true → bytes ≢ []) → (if b then kept at bytes ∷ [] else []) ≡ kept_unless_empty at bytes
stretch_if true at [] empty some = absurd (some refl refl)
stretch_if true at (x ∷ xs) empty some = refl
stretch_if false at bytes empty some = rw (empty refl) refl

last_stretch : (source : List ℕ) (from : ℕ) → stretch source from (length source) ≡ kept_unless_empty from (drop from source)
last_stretch source from =
    let rest : slice_range source from (length source) ≡ drop from source = take_all _ (drop from source) (omega (arith, length-drop from source)) in
    rw rest (stretch_if (nat_lt from (length source)) from (drop from source) (λ no. nil_from_length _ (grind (arith, nat_tests, no, length-drop from source))) (λ yes none. grind (arith, nat_tests, yes, ap length none, length-drop from source)))

pub returns-in-None-clause-some : goal.returns-in-None-clause-some
returns-in-None-clause-some g c =
    rw (c.requires, c.if-self.false, c.in-None.ensures.none, c.range_from.ensures.value) (last_stretch c.args.self.now.text.now c.args.self.now.from ∙ sym (append-nil _))

pub returns-in-None-clause-less : goal.returns-in-None-clause-less
returns-in-None-clause-less g c = rw c.if-self.false (omega arith)
