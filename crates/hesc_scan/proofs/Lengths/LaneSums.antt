-- What is added to some bytes, summed lane by lane over blocks of 32.
use Rattle.std.proofs.Common.{◌≡◌, ℕ, ◌+◌, ◌*◌, ◌≤◌, ◌<◌, w8, List, map, drop, length, take, ap, sym, ◌∙◌, arith}
use Rattle.std.proofs.lemmas.List.{length-map}
use Rattle.std.proofs.lemmas.List.Sums.{sum_by-append}
use Rattle.std.proofs.Math.Seq.{take-add}
use Rattle.std.proofs.lemmas.Simd.{Each1-zip2, Each2-of, length-chunk, length-zip2, sum-zip2}
use Rattle.std.specs.List.{sum_by}
use Rattle.std.specs.Simd.Lanes.{Each1, sum_l}
use Rattle.hesc_scan.proofs.ChunkSearch.{StandsAt}
use Rattle.hesc_scan.proofs.LaneMaps.{sum-map}
use lib.Lanes.{Each2, chunk, zip2}
use mir.Val.{Fits}

-- one block more in sums over the blocks before it
module _ (f : ℕ → ℕ) (bytes found sums : List ℕ) (block : ℕ) (few_blocks : block < 48) (stands : StandsAt bytes (32 * block) found) (long : length sums ≡ 32) (few_each : Each1 (λ a. a ≤ 5 * block) sums)
    (few : Each1 (λ a. a ≤ 5) (map f found)) where
  as_long : length sums ≡ length (map f found)
  as_long = omega (arith, long, length-map found f, ap length stands.bytes_there, length-chunk (32 * block) 32 bytes stands.room)

  pub lanes_fit : Each2 (λ a b. Fits w8 (a + b)) sums (map f found)
  lanes_fit = Each2-of (λ a. a ≤ 5 * block) (λ b. b ≤ 5) (λ a b. Fits w8 (a + b)) (λ a b p q. record { fits = omega arith }) sums (map f found) few_each few

  pub long_after : length (zip2 (λ a b. a + b) sums (map f found)) ≡ 32
  long_after = length-zip2 (λ a b. a + b) sums (map f found) as_long ∙ long

  pub few_after : Each1 (λ a. a ≤ 5 * (block + 1)) (zip2 (λ a b. a + b) sums (map f found))
  few_after =
      Each1-zip2 (λ a b. a + b) (λ a. a ≤ 5 * (block + 1)) sums (map f found)
      (Each2-of (λ a. a ≤ 5 * block) (λ b. b ≤ 5) (λ a b. a + b ≤ 5 * (block + 1)) (λ a b p q. omega arith) sums (map f found) few_each few)

  pub sum_after : sum_l sums ≡ sum_by f (take (32 * block) bytes) → sum_l (zip2 (λ a b. a + b) sums (map f found)) ≡ sum_by f (take (32 * (block + 1)) bytes)
  sum_after so_far =
      let next : 32 * (block + 1) ≡ 32 * block + 32 = omega arith in
      let more : sum_by f (take (32 * (block + 1)) bytes) ≡ sum_by f (take (32 * block) bytes) + sum_by f found =
      ap (λ n. sum_by f (take n bytes)) next ∙ ap (sum_by f) (take-add (32 * block) 32 bytes)
      ∙ sum_by-append f (take (32 * block) bytes) (take 32 (drop (32 * block) bytes))
      ∙ ap (λ l. sum_by f (take (32 * block) bytes) + sum_by f l) (sym stands.bytes_there) in
      omega (arith, more, so_far, sum-zip2 sums (map f found) as_long, sum-map f found)

-- what is added to the bytes up to a place, and to some from there on
pub sum_more : (f : ℕ → ℕ) (bytes : List ℕ) (place n : ℕ) → sum_by f (take (place + n) bytes) ≡ sum_by f (take place bytes) + sum_by f (chunk place n bytes)
sum_more f bytes place n = ap (sum_by f) (take-add place n bytes) ∙ sum_by-append f (take place bytes) (chunk place n bytes)
