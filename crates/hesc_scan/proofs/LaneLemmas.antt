-- From comparisons of whole vectors to a test of each of their bytes.
use Rattle.std.proofs.Common.{◌≡◌, ℕ, ◌%◌, ◌^◌, ◌≤◌, ◌<◌, Bool, true, ◌||◌, cond, bit_or, List, [], ◌∷◌, map, length, ap, ◌∙◌, arith}
use Rattle.std.proofs.lemmas.Bool.Decides.{nat_tests}
use Rattle.std.proofs.lemmas.Bool.{agree_below, agree_below_at}
use Rattle.std.proofs.lemmas.List.{length-map}
use Rattle.std.proofs.lemmas.Simd.{map-map, mask_l-mod}
use Rattle.std.specs.Simd.Lanes.{Each1, mask_l, top}
use Rattle.hesc_specs.specs.Text.Classes.{in_class}
use Rattle.hesc_specs.specs.declared.classes.Class.{Class}

-- lists by two functions are the same that agree at each of the 256 bytes
pub same_below : {X : Type 0} (f g : ℕ → X) (v : List ℕ) → Each1 (λ b. b < 256) v → ((b : ℕ) → b < 256 → f b ≡ g b) → map f v ≡ map g v
same_below f g [] below all = λ i. []
same_below f g (b ∷ v) below all = λ i. all b below.0 i ∷ same_below f g v below.1 all i

-- the mask of comparisons that agree with a test at each byte
pub mask_by : (test : ℕ → Bool) (f : ℕ → ℕ) (v compared : List ℕ) → length v ≤ 64 → compared ≡ map f v → ((b : ℕ) → top 7 (f b) ≡ test b)
    → mask_l (map (top 7) compared) % 2 ^ 64 ≡ mask_l (map test v)
mask_by test f v compared few each agrees =
    ap (λ l. mask_l l % 2 ^ 64) (ap (map (top 7)) each ∙ map-map (top 7) f v ∙ (λ i. map (λ b. agrees b i) v))
    ∙ mask_l-mod (map test v) 64 (omega (arith, length-map v test))

pub one_set : (p : Bool) → top 7 (cond p 255 0) ≡ p
one_set p = grind (arith, nat_tests)

pub either_set : (p q : Bool) → top 7 (bit_or (cond p 255 0) (cond q 255 0)) ≡ p || q
either_set p q = grind (arith, nat_tests)

-- a mask by a test that agrees with a class at each of the 256 bytes
pub mask_as_class : (class : Class) (test : ℕ → Bool) (v : List ℕ) (mask : ℕ) → Each1 (λ b. b < 256) v
    → agree_below test (in_class class) 256 ≡ true → mask ≡ mask_l (map test v) → mask ≡ mask_l (map (in_class class) v)
mask_as_class class test v mask below all is =
    is ∙ ap mask_l (same_below test (in_class class) v below (λ b small. agree_below_at test (in_class class) 256 b all small))
