-- Lanes that are made from each byte by itself.
use Rattle.std.proofs.Common.{◌≡◌, ℕ, ◌*◌, ◌≤◌, ◌<◌, Bool, true, ◌==◌, cond, List, [], ◌∷◌, map, length, refl, arith}
use Rattle.std.proofs.lemmas.Bool.Decides.{nat_tests}
use Rattle.std.proofs.lemmas.Bool.{agree_below, agree_below_at, eqb-true, leb-true}
use Rattle.std.proofs.lemmas.List.{length-map}
use Rattle.std.proofs.lemmas.List.Sums.{sum_by-cons}
use Rattle.std.proofs.lemmas.Simd.{sum_bound}
use Rattle.std.specs.List.{sum_by}
use Rattle.std.specs.Prelude.{nat_le}
use Rattle.std.specs.Simd.Lanes.{Each1, sum_l, top}
use Rattle.hesc_scan.proofs.LaneLemmas.{same_below}
use lib.Lanes.{sel_l}

-- two lanes are the same that agree at each of the 256 bytes
pub same_lanes : (f g : ℕ → ℕ) (v : List ℕ) → Each1 (λ b. b < 256) v → agree_below (λ b. f b == g b) (λ _. true) 256 ≡ true → map f v ≡ map g v
same_lanes f g v below all = same_below f g v below (λ b small. eqb-true _ _ (agree_below_at (λ k. f k == g k) (λ _. true) 256 b all small))

selected_maps : (mask f g : ℕ → ℕ) (v : List ℕ) → sel_l (map (top 7) (map mask v)) (map f v) (map g v) ≡ map (λ b. cond (top 7 (mask b)) (f b) (g b)) v
selected_maps mask f g [] = λ i. []
selected_maps mask f g (b ∷ v) = λ i. cond (top 7 (mask b)) (f b) (g b) ∷ selected_maps mask f g v i

pub selected : (mask f g : ℕ → ℕ) (v masks xs ys : List ℕ) → masks ≡ map mask v → xs ≡ map f v → ys ≡ map g v
    → sel_l (map (top 7) masks) xs ys ≡ map (λ b. cond (top 7 (mask b)) (f b) (g b)) v
selected mask f g v masks xs ys is_mask is_f is_g = grind (arith, nat_tests, map, selected_maps)

pub sum-map : (f : ℕ → ℕ) (v : List ℕ) → sum_l (map f v) ≡ sum_by f v
sum-map f [] = refl
sum-map f (b ∷ v) = omega (arith, sum-map f v, sum_by-cons f b v)

-- at most five for each of the 256 bytes
abbrev pub are_few : (ℕ → ℕ) → Bool
are_few f = agree_below (λ b. nat_le (f b) 5) (λ _. true) 256

pub few_lanes : (f : ℕ → ℕ) (v : List ℕ) → are_few f ≡ true → Each1 (λ b. b < 256) v → Each1 (λ a. a ≤ 5) (map f v)
few_lanes f [] few below = tt
few_lanes f (b ∷ v) few below = (leb-true (f b) 5 (agree_below_at (λ k. nat_le (f k) 5) (λ _. true) 256 b few below.0), few_lanes f v few below.1)

pub few_in_all : (f : ℕ → ℕ) (v : List ℕ) → are_few f ≡ true → Each1 (λ b. b < 256) v → sum_by f v ≤ 5 * length v
few_in_all f v few below = omega (arith, sum-map f v, sum_bound 5 (map f v) (few_lanes f v few below), length-map v f)
