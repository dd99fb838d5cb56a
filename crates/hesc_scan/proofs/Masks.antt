-- The mask of a part of some lanes, from the mask of all of them.
use Rattle.std.proofs.Common.{◌≡◌, ℕ, suc, ◌+◌, ◌*◌, ◌/◌, ◌%◌, ◌^◌, ◌≤◌, ◌<◌, Bool, List, [], ◌∷◌, ◌++◌, map, take, drop, length, ap, sym, ◌∙◌, arith, ◌-◌, bit_and, bit_or, get_or, inl, inr}
use Rattle.std.proofs.lemmas.Bool.Decides.{nat_tests}
use Rattle.std.proofs.lemmas.Bool.{cases_lt}
use Rattle.std.proofs.lemmas.List.{drop-drop, drop-take, length-drop, length-take, length-map, length-take-le, map-append, take-append-drop, take-take}
use Rattle.std.proofs.lemmas.Nat.{and_mask, mod_low, one_shl, or_shifted, shl_whole, shr_high, shr_le}
use Rattle.std.proofs.lemmas.Simd.{Each1-get_or, mask_l-lt}
use Rattle.std.proofs.Math.ListN.{get_or-eq_default}
use Rattle.std.proofs.Math.Nat.{mul_assoc, mul_comm, pow-suc}
use Rattle.std.specs.Int.Bits.{mask_lt}
use Rattle.std.specs.Simd.Lanes.{Each1, mask_l}
use Rattle.hesc_scan.specs.Blocks.{mask_from}

doubled : (m n : ℕ) → 2 * (m * 2 ^ n) ≡ m * 2 ^ suc n
doubled m n = mul_comm 2 (m * 2 ^ n) ∙ mul_assoc m (2 ^ n) 2 ∙ ap (λ p. m * p) (sym (pow-suc 2 n))

mask_l-append : (bs cs : List Bool) → mask_l (bs ++ cs) ≡ mask_l cs * 2 ^ length bs + mask_l bs
mask_l-append [] cs = omega arith
mask_l-append (b ∷ bs) cs = omega (arith, mask_l-append bs cs, doubled (mask_l cs) (length bs))

module _ (test : ℕ → Bool) (xs : List ℕ) (k : ℕ) (within : k ≤ length xs) where
  long : length (map test (take k xs)) ≡ k
  long = length-map (take k xs) test ∙ length-take-le k xs within

  split : mask_l (map test xs) ≡ mask_l (map test (drop k xs)) * 2 ^ k + mask_l (map test (take k xs))
  split =
      ap (λ l. mask_l (map test l)) (sym (take-append-drop k xs))
      ∙ ap mask_l (map-append test (take k xs) (drop k xs))
      ∙ mask_l-append (map test (take k xs)) (map test (drop k xs))
      ∙ ap (λ n. mask_l (map test (drop k xs)) * 2 ^ n + mask_l (map test (take k xs))) long

  low : mask_l (map test (take k xs)) < 2 ^ k
  low = rw long at (mask_l-lt (map test (take k xs)))

  pub mask_l-take : mask_l (map test xs) % 2 ^ k ≡ mask_l (map test (take k xs))
  mask_l-take = ap (λ n. n % 2 ^ k) split ∙ mod_low (mask_l (map test (drop k xs))) k (mask_l (map test (take k xs))) low

  pub mask_l-drop : mask_l (map test xs) / 2 ^ k ≡ mask_l (map test (drop k xs))
  mask_l-drop = ap (λ n. n / 2 ^ k) split ∙ shr_high (mask_l (map test (drop k xs))) k (mask_l (map test (take k xs))) low

-- the first lanes, and those from a place on
pub mask_l-parts : (test : ℕ → Bool) (xs : List ℕ) (front skip : ℕ) → front ≤ length xs → skip ≤ length xs
    → mask_l (map test (take front xs ++ drop skip xs)) ≡ mask_l (map test xs) / 2 ^ skip * 2 ^ front + mask_l (map test xs) % 2 ^ front
mask_l-parts test xs front skip first last = grind (arith, nat_tests, map-append, mask_l-append, map, long, mask_l-drop, mask_l-take)

-- the same, as shifts and masks of 64 bits
pub parts_by_bits : (test : ℕ → Bool) (xs : List ℕ) (front skip mask : ℕ) → length xs ≡ 32 → front ≤ 32 → skip ≤ 32 → mask ≡ mask_l (map test xs)
    → bit_or (mask / 2 ^ skip * 2 ^ front % 2 ^ 64) (bit_and mask (1 * 2 ^ front % 2 ^ 64 - 1)) ≡ mask_l (map test (take front xs ++ drop skip xs))
parts_by_bits test xs front skip mask long first last masks =
    let small : mask < 2 ^ 32 = omega (arith, masks, rw (length-map xs test, long) at (mask_l-lt (map test xs))) in
    let shifted : mask / 2 ^ skip < 2 ^ 32 = omega (arith, shr_le mask skip) in
    let low : bit_and mask (1 * 2 ^ front % 2 ^ 64 - 1) ≡ mask % 2 ^ front = ap (λ n. bit_and mask (n - 1)) (one_shl front 64 (omega arith)) ∙ and_mask mask front in
    (λ i. bit_or (shl_whole (mask / 2 ^ skip) 32 front 64 shifted (omega arith) i) (low i))
    ∙ or_shifted (mask / 2 ^ skip) front (mask % 2 ^ front) (omega (arith, rw (and_mask mask front) at (mask_lt mask front)))
    ∙ ap (λ m. m / 2 ^ skip * 2 ^ front + m % 2 ^ front) masks
    ∙ sym (mask_l-parts test xs front skip (omega (arith, long)) (omega (arith, long)))

-- each of them is a byte
pub byte_at : (xs : List ℕ) → Each1 (λ b. b < 256) xs → (k : ℕ) → get_or xs k 0 < 256
byte_at xs below k =
    elim (cases_lt k (length xs)) [
      | inl within ↦ Each1-get_or (λ b. b < 256) xs k 0 within below
      | inr past ↦ omega (arith, get_or-eq_default xs 0 past)
    ]

-- the mask of the bytes from a place on, without those before another place
pub mask_from-later : (test : ℕ → Bool) (bytes : List ℕ) (start from hits : ℕ) → start ≤ from → from < start + 32 → from ≤ length bytes → hits ≡ mask_from test bytes start
    → hits / 2 ^ (from - start) ≡ mask_l (map test (take (32 - (from - start)) (drop from bytes)))
mask_from-later test bytes start from hits after near within masks =
    let skipped : ℕ = from - start in
    let there : skipped + (32 - skipped) ≡ 32 = omega arith in
    ap (λ n. n / 2 ^ skipped) masks
    ∙ mask_l-drop test (take 32 (drop start bytes)) skipped (omega (arith, length-take 32 (drop start bytes), length-drop start bytes))
    ∙ ap (λ n. mask_l (map test (drop skipped (take n (drop start bytes))))) (sym there)
    ∙ ap (λ l. mask_l (map test l)) (drop-take skipped (32 - skipped) (drop start bytes) ∙ ap (take (32 - skipped)) (drop-drop skipped start bytes))
    ∙ ap (λ n. mask_l (map test (take (32 - skipped) (drop n bytes)))) (omega arith)

half_small : (test : ℕ → Bool) (xs : List ℕ) (skip : ℕ) → length xs ≡ skip + 16 → mask_l (map test (drop skip xs)) < 2 ^ 16
half_small test xs skip sixteen = grind (arith, nat_tests, map, length-map, length-drop, mask_l-lt)

-- the mask of lanes, from those of the first 16 and of the last 16
pub halves_by_bits : (test : ℕ → Bool) (xs : List ℕ) (skip first last : ℕ) → skip ≤ 16 → length xs ≡ skip + 16 → first ≡ mask_l (map test (take 16 xs)) → last ≡ mask_l (map test (drop skip xs))
    → bit_or (last * 2 ^ skip % 2 ^ 64) (bit_and first (1 * 2 ^ skip % 2 ^ 64 - 1)) ≡ mask_l (map test xs)
halves_by_bits test xs skip first last few sixteen is_first is_last =
    let small : last < 2 ^ 32 =
    omega (arith, is_last, half_small test xs skip sixteen) in
    let low : bit_and first (1 * 2 ^ skip % 2 ^ 64 - 1) ≡ first % 2 ^ skip = ap (λ n. bit_and first (n - 1)) (one_shl skip 64 (omega arith)) ∙ and_mask first skip in
    let front : first % 2 ^ skip ≡ mask_l (map test (take skip xs)) =
    ap (λ n. n % 2 ^ skip) is_first
    ∙ mask_l-take test (take 16 xs) skip (omega (arith, sixteen, length-take 16 xs))
    ∙ ap (λ l. mask_l (map test l)) (take-take skip 16 xs few) in
    (λ i. bit_or (shl_whole last 32 skip 64 small (omega arith) i) (low i))
    ∙ or_shifted last skip (first % 2 ^ skip) (omega (arith, rw (and_mask first skip) at (mask_lt first skip)))
    ∙ (λ i. is_last i * 2 ^ skip + front i)
    ∙ sym (split test xs skip (omega (arith, sixteen)))
