-- A table of sixteen entries that stands twice, looked up in for each of 32 bytes.
use Rattle.std.proofs.Common.{◌≡◌, ℕ, suc, ◌+◌, ◌*◌, ◌/◌, ◌^◌, ◌≤◌, ◌<◌, w8, true, ◌==◌, List, [], ◌∷◌, map, length, get_or, replicate, bit_and, refl, ap, ◌∙◌, arith}
use Rattle.std.proofs.lemmas.Bool.Decides.{nat_tests}
use Rattle.std.proofs.lemmas.Bool.{agree_below}
use Rattle.std.proofs.lemmas.Nat.{and_le_r}
use Rattle.std.proofs.lemmas.Simd.{Each1-all, Each1-weaker, Each1-zip2, Each2-splat, length-zip2, swz_l, SwzOk, SwzOk-from_below, get_or-swz_l_below}
use Rattle.std.specs.Simd.Lanes.{Each1}
use lib.Lanes.{zip2}

-- the nibble of a byte that a table is looked up by
abbrev pub high_nibble : ℕ → ℕ → ℕ
high_nibble b bits = b / 2 ^ bits

pub low_nibbles_fit : (v : List ℕ) → length v ≡ 32 → SwzOk w8 16 32 0 (zip2 bit_and v (replicate 32 15))
low_nibbles_fit v long =
    let small = Each1-all (λ b. bit_and b 15 < 16) (λ b. omega (arith, and_le_r b 15)) v in
    SwzOk-from_below w8 16 2 32 0 (zip2 bit_and v (replicate 32 15)) refl (omega (arith, length-zip2 bit_and v (replicate 32 15) long))
    (Each1-zip2 bit_and (λ j. j < 16) v (replicate 32 15) (Each2-splat (λ a b. bit_and a b < 16) v 32 15 small))

pub high_nibbles_fit : (v : List ℕ) → length v ≡ 32 → Each1 (λ b. b < 256) v → SwzOk w8 16 32 0 (zip2 high_nibble v (replicate 32 4))
high_nibbles_fit v long below =
    let small = Each1-weaker (λ b. b < 256) (λ b. b / 16 < 16) (λ b less. omega arith) v below in
    SwzOk-from_below w8 16 2 32 0 (zip2 high_nibble v (replicate 32 4)) refl (omega (arith, length-zip2 high_nibble v (replicate 32 4) long))
    (Each1-zip2 high_nibble (λ j. j < 16) v (replicate 32 4) (Each2-splat (λ a b. high_nibble a b < 16) v 32 4 small))

-- that a table stands twice is computed
pub stands_twice : (table : List ℕ) → agree_below (λ j. get_or table (16 + j) 0 == get_or table j 0) (λ _. true) 16 ≡ true →
    (j : ℕ) → j < 16 → get_or table (16 + j) 0 ≡ get_or table j 0
stands_twice table same j below = grind (arith, nat_tests)

module _ (table : List ℕ) (twice : (j : ℕ) → j < 16 → get_or table (16 + j) 0 ≡ get_or table j 0) (nibble : ℕ → ℕ) (small : (b : ℕ) → b < 256 → nibble b < 16) where
  repeats : (i j : ℕ) → i < 32 → j < 16 → get_or table (16 * ((i + 0) / 16) + j) 0 ≡ get_or table j 0
  repeats i j within below = grind (arith, nat_tests)

  looked_up_from : (i : ℕ) (v : List ℕ) → i + length v ≤ 32 → Each1 (λ b. b < 256) v → swz_l w8 16 table i (map nibble v) ≡ map (λ b. get_or table (nibble b) 0) v
  looked_up_from i [] room below = refl
  looked_up_from i (b ∷ v) room below =
      let fits = small b below.0 in
      λ k. (get_or-swz_l_below w8 16 table i (map nibble (b ∷ v)) 0 (omega arith) fits ∙ repeats i (nibble b) (omega arith) fits) k ∷ looked_up_from (suc i) v (omega arith) below.1 k

  pub looked_up : (v nibbles : List ℕ) → length v ≡ 32 → Each1 (λ b. b < 256) v → nibbles ≡ map nibble v → swz_l w8 16 table 0 nibbles ≡ map (λ b. get_or table (nibble b) 0) v
  looked_up v nibbles long below are = ap (swz_l w8 16 table 0) are ∙ looked_up_from 0 v (omega arith) below
