-- The lanes of a block that hold its bytes.
use Rattle.std.proofs.Common.{◌≡◌, ℕ, zero, suc, ◌+◌, ◌-◌, ◌≤◌, Bool, true, false, ◌||◌, cond, bit_or, leb, List, [], ◌∷◌, take, drop, length, replicate, ap, sym, ◌∙◌, inl, inr, arith}
use Rattle.std.proofs.lemmas.Bool.Decides.{nat_tests}
use Rattle.std.proofs.lemmas.Bool.{cases_lt, le-leb, le-ltb, lt-leb, lt-ltb}
use Rattle.std.specs.Prelude.{nat_lt}
use Rattle.std.specs.Simd.Lanes.{Each1, sum_l, top}
use lib.Lanes.{sel_l}

-- the lanes from one on that hold a byte
abbrev pub held : (front skip i n : ℕ) → List Bool
held front skip i zero = []
held front skip i (suc n) = top 7 (bit_or (cond (nat_lt i front) 255 0) (cond (leb skip i) 255 0)) ∷ held front skip (suc i) n

module _ (front skip : ℕ) (apart : front ≤ skip) where
  abbrev kept : ℕ → List ℕ → List ℕ
  kept i v = sel_l (held front skip i (length v)) v (replicate (length v) 0)

  empty : (n : ℕ) → sum_l (take n []) ≡ 0
  empty n = grind (arith, nat_tests)

  empty_after : (n : ℕ) → sum_l (drop n []) ≡ 0
  empty_after n = grind (arith, nat_tests)

  -- one lane more, by whether it holds a byte
  first_lane : (i : ℕ) (b : ℕ) (v : List ℕ) (p q : Bool) → nat_lt i front ≡ p → leb skip i ≡ q → sum_l (kept i (b ∷ v)) ≡ cond (p || q) b 0 + sum_l (kept (suc i) v)
  first_lane i b v p q is_p is_q = grind (arith, nat_tests)

  -- those before the front's end, and those after what is skipped
  sum_kept : (i : ℕ) (v : List ℕ) → sum_l (kept i v) ≡ sum_l (take (front - i) v) + sum_l (drop (skip - i) v)
  sum_kept i [] = omega (arith, empty (front - i), empty_after (skip - i))
  sum_kept i (b ∷ v) = elim (cases_lt i front) [
    | inl first ↦
        let taken : front - i ≡ suc (front - suc i) = omega arith in
        let dropped : skip - i ≡ suc (skip - suc i) = omega arith in
        rw (taken, dropped) (omega (arith, first_lane i b v true false (lt-ltb i front first) (lt-leb skip i (omega arith)), sum_kept (suc i) v))
    | inr past ↦ elim (cases_lt i skip) [
      | inl between ↦
          let taken : front - i ≡ 0 = omega arith in
          let taken_next : front - suc i ≡ 0 = omega arith in
          let dropped : skip - i ≡ suc (skip - suc i) = omega arith in
          rw (taken, dropped) (omega (arith, first_lane i b v false false (le-ltb i front past) (lt-leb skip i between), sum_kept (suc i) v, ap (λ n. sum_l (take n v)) taken_next))
      | inr last ↦
          let taken : front - i ≡ 0 = omega arith in
          let taken_next : front - suc i ≡ 0 = omega arith in
          let dropped : skip - i ≡ 0 = omega arith in
          let dropped_next : skip - suc i ≡ 0 = omega arith in
          rw (taken, dropped) (omega (arith, first_lane i b v false true (le-ltb i front past) (le-leb skip i last), sum_kept (suc i) v, ap (λ n. sum_l (take n v)) taken_next, ap (λ n. sum_l (drop n v)) dropped_next))
    ]
  ]

  -- the lanes of a block
  pub sum_of_block : (v : List ℕ) → length v ≡ 32 → sum_l (sel_l (held front skip 0 32) v (replicate 32 0)) ≡ sum_l (take front v) + sum_l (drop skip v)
  sum_of_block v long =
      let all_front : front - 0 ≡ front = omega arith in
      let all_skip : skip - 0 ≡ skip = omega arith in
      rw (all_front, all_skip) at (ap (λ n. sum_l (sel_l (held front skip 0 n) v (replicate n 0))) (sym long) ∙ sum_kept 0 v)

pub few_kept : (most : ℕ) (masks : List Bool) (v : List ℕ) (n : ℕ) → Each1 (λ a. a ≤ most) v → Each1 (λ a. a ≤ most) (sel_l masks v (replicate n 0))
few_kept most [] v n few = tt
few_kept most (m ∷ masks) [] n few = tt
few_kept most (m ∷ masks) (a ∷ v) zero few = tt
few_kept most (true ∷ masks) (a ∷ v) (suc n) few = (few.0, few_kept most masks v n few.1)
few_kept most (false ∷ masks) (a ∷ v) (suc n) few = (omega arith, few_kept most masks v n few.1)
