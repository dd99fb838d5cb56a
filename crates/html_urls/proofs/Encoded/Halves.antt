-- Tables of sixteen that are read by half of each byte.
use Rattle.std.proofs.Common.{◌≡◌, ℕ, suc, ◌+◌, ◌*◌, ◌/◌, ◌%◌, ◌^◌, ◌≤◌, ◌<◌, leb, cond, List, [], ◌∷◌, get_or, length, map, replicate, refl, sym, ap, ◌∙◌, bit_and, w8, arith, inl, inr}
use Rattle.std.proofs.lemmas.Bool.{cases_lt, cond-false, cond-true, le-leb, lt-leb}
use Rattle.std.proofs.lemmas.List.{length-map}
use Rattle.std.proofs.lemmas.Nat.{and_le_r, and_mask}
use Rattle.std.proofs.lemmas.Simd.{Each1-all, Each1-weaker, Each1-zip2, Each2-splat, SwzOk, SwzOk-from_below, length-zip2, map-map, swz_l, zip2_splat}
use Rattle.std.proofs.Math.ListN.{get_or-eq_default}
use Rattle.std.specs.Simd.Lanes.{Each1, zip2}

abbrev pub down : ℕ → ℕ → ℕ
down a b = a / 2 ^ b

-- the halves are places of a table

pub high_within : (v : List ℕ) → length v ≡ 16 → Each1 (λ b. b < 256) v → SwzOk w8 16 16 0 (zip2 down v (replicate 16 4))
high_within v long below =
    SwzOk-from_below w8 16 1 16 0 (zip2 down v (replicate 16 4)) refl (omega (arith, length-zip2 down v (replicate 16 4) long, long))
    (Each1-zip2 down (λ j. j < 16) v (replicate 16 4) (Each2-splat (λ a b. down a b < 16) v 16 4 (Each1-weaker (λ a. a < 256) (λ a. a / 16 < 16) (λ a h. omega arith) v below)))

pub low_within : (v : List ℕ) → length v ≡ 16 → SwzOk w8 16 16 0 (zip2 bit_and v (replicate 16 15))
low_within v long =
    SwzOk-from_below w8 16 1 16 0 (zip2 bit_and v (replicate 16 15)) refl (omega (arith, length-zip2 bit_and v (replicate 16 15) long, long))
    (Each1-zip2 bit_and (λ j. j < 16) v (replicate 16 15) (Each2-splat (λ a b. bit_and a b < 16) v 16 15 (Each1-all (λ a. bit_and a 15 < 16) (λ a. omega (arith, and_le_r a 15)) v)))

-- what is read

pub looked_up : (table picks : List ℕ) (i : ℕ) → length table ≡ 16 → i + length picks ≤ 16 → swz_l w8 16 table i picks ≡ map (λ k. get_or table k 0) picks
looked_up table [] i long within = refl
looked_up table (k ∷ picks) i long within =
    let here : cond (leb 128 k) 0 (get_or table (16 * (i / 16) + k) 0) ≡ get_or table k 0 =
    elim (cases_lt k 128) [ inl lane ↦ cond-false _ _ _ (lt-leb 128 k lane) ∙ ap (λ n. get_or table n 0) (omega (arith, within)) | inr none ↦ cond-true _ _ _ (le-leb 128 k none) ∙ sym (get_or-eq_default table 0 (omega (arith, long, none))) ] in
    λ p. here p ∷ looked_up table picks (suc i) long (omega (arith, within)) p

module _ (table v : List ℕ) (whole : length table ≡ 16) (long : length v ≡ 16) where
  by_half : (half : ℕ → ℕ) → swz_l w8 16 table 0 (map half v) ≡ map (λ b. get_or table (half b) 0) v
  by_half half = looked_up table (map half v) 0 whole (omega (arith, length-map v half, long)) ∙ map-map (λ k. get_or table k 0) half v

  pub by_high_half : swz_l w8 16 table 0 (zip2 down v (replicate 16 4)) ≡ map (λ b. get_or table (b / 16) 0) v
  by_high_half = ap (swz_l w8 16 table 0) (zip2_splat down v 16 4 long) ∙ by_half (λ b. b / 16)

  pub by_low_half : swz_l w8 16 table 0 (zip2 bit_and v (replicate 16 15)) ≡ map (λ b. get_or table (b % 16) 0) v
  by_low_half = ap (swz_l w8 16 table 0) (zip2_splat bit_and v 16 15 long ∙ (λ i. map (λ a. and_mask a 4 i) v)) ∙ by_half (λ b. b % 16)
