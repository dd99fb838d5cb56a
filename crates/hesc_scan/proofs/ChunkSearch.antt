-- A search that goes by chunks of 32 bytes: where a chunk stands, and what its mask tells.
use Rattle.std.proofs.Common.{◌≡◌, ℕ, zero, suc, ◌+◌, ◌*◌, ◌-◌, ◌/◌, ◌≤◌, ◌<◌, Fits, w8, Bool, false, not, cond, List, [], ◌∷◌, drop, length, min, take, get_or, map, sym, subst, ap, ◌∙◌, arith, inl, inr}
use Rattle.std.proofs.lemmas.Bool.Decides.{nat_tests}
use Rattle.std.proofs.lemmas.Bool.{cases_lt}
use Rattle.std.proofs.lemmas.List.{drop-drop, length-drop, take_all, take_min}
use Rattle.std.proofs.lemmas.Simd.{below_from_Fits, chunk-fits, length-chunk, none_from_empty_mask, run_in_chunk_fails, run_in_chunk_stops, trailing_mask_l}
use Rattle.std.proofs.Math.Nat.{mul-suc, mul-zero}
use Rattle.std.specs.Int.Count.{count_trailing_zeros}
use Rattle.std.specs.List.{prefix_len}
use Rattle.std.specs.Simd.Lanes.{Each1, mask_l}
use Rattle.std.specs.Simd.{first_chunks}
use lib.Lanes.{chunk}
use Rattle.hesc_specs.specs.Text.FirstPlace.{IsFirstPlace}
use Rattle.hesc_scan.specs.Blocks.{IsFirstBlock, IsPassed}

get_or-first_chunks : (n k i : ℕ) (xs : List ℕ) → i < k → get_or (first_chunks n k xs) i [] ≡ chunk (n * i) n xs
get_or-first_chunks n zero i xs within = absurd (omega arith)
get_or-first_chunks n (suc k) zero xs within = ap (λ j. chunk j n xs) (sym (mul-zero n))
get_or-first_chunks n (suc k) (suc i) xs within =
    get_or-first_chunks n k i (drop n xs) (omega arith) ∙ ap (chunk 0 n) (drop-drop (n * i) n xs) ∙ ap (λ j. chunk j n xs) (omega (arith, mul-suc n i))

-- these are the 32 bytes from a place on
pub record StandsAt (bytes : List ℕ) (place : ℕ) (found : List ℕ) : Type 0 where
  pub room : place + 32 ≤ length bytes
  pub bytes_there : found ≡ chunk place 32 bytes

-- the chunks of the bytes from a place on
module _ (bytes rest : List ℕ) (from : ℕ) (chunks : List (List ℕ)) (i : ℕ) (within : from ≤ length bytes) (from_there : rest ≡ drop from bytes)
    (front : chunks ≡ first_chunks 32 (length rest / 32) rest) (many : length chunks ≡ length rest / 32) (inside : i < length chunks) where
  count : length chunks ≡ (length bytes - from) / 32
  count = many ∙ ap (λ l. length l / 32) from_there ∙ ap (λ n. n / 32) (length-drop from bytes)

  pub chunk_stands : (place : ℕ) → place ≡ from + 32 * i → StandsAt bytes place (get_or chunks i [])
  chunk_stands place is = grind (arith, nat_tests, is, count, get_or-first_chunks, drop-drop)

-- a slice from a place on, as a program writes it
pub slice_rest : (bytes : List ℕ) (from : ℕ) → from ≤ length bytes → chunk from (length bytes - from) bytes ≡ drop from bytes
slice_rest bytes from within = take_all (length bytes - from) (drop from bytes) (omega (arith, length-drop from bytes))

pub below_256 : (bytes found : List ℕ) (place : ℕ) → ((k : ℕ) → Fits w8 (get_or bytes k 0)) → StandsAt bytes place found → Each1 (λ b. b < 256) found
below_256 bytes found place fits stands = subst (Each1 (λ b. b < 256)) (sym stands.bytes_there) (below_from_Fits w8 _ (chunk-fits w8 place 32 bytes fits))

stop : (b : Bool) (n m l : ℕ) → 0 < cond b 1 0 + 2 * n → (0 < n → m < l) → cond (not b) (1 + m) 0 < suc l
stop b n m l some f = grind (arith, nat_tests)

stops : (test : ℕ → Bool) (xs : List ℕ) → 0 < mask_l (map test xs) → prefix_len (λ x. not (test x)) xs < length xs
stops test [] some = absurd (omega arith)
stops test (x ∷ xs) some = stop (test x) (mask_l (map test xs)) (prefix_len (λ y. not (test y)) xs) (length xs) some (stops test xs)

-- the mask of the bytes from a place on, where no byte before them passes the test
module _ (test : ℕ → Bool) (bytes found : List ℕ) (from place n mask : ℕ) (few : n ≤ 64) (room : place + n ≤ length bytes) (there : found ≡ chunk place n bytes) (after : from ≤ place)
    (none : (k : ℕ) → from ≤ k → k < place → test (get_or bytes k 0) ≡ false)
    (masks : mask ≡ mask_l (map test found)) where
  is : mask ≡ mask_l (map test (chunk place n bytes))
  is = masks ∙ ap (λ l. mask_l (map test l)) there

  counted : 0 < mask → count_trailing_zeros 64 mask ≡ prefix_len (λ x. not (test x)) (chunk place n bytes)
  counted some = ap (count_trailing_zeros 64) is ∙ trailing_mask_l test 64 (chunk place n bytes) (omega (arith, length-chunk place n bytes room)) (omega (arith, is, some))

  short : 0 < mask → count_trailing_zeros 64 mask < n
  short some = omega (arith, counted some, length-chunk place n bytes room, stops test (chunk place n bytes) (omega (arith, is, some)))

  pub inside_by_mask_of : 0 < mask → place + count_trailing_zeros 64 mask < length bytes
  inside_by_mask_of some = omega (arith, room, short some)

  pub first_by_mask_of : 0 < mask → IsFirstPlace test bytes from (place + count_trailing_zeros 64 mask)
  first_by_mask_of some = grind (arith, nat_tests, inside_by_mask_of, cases_lt, run_in_chunk_fails, counted, run_in_chunk_stops, short)

  pub none_by_mask_of : mask ≡ 0 → (k : ℕ) → from ≤ k → k < place + n → test (get_or bytes k 0) ≡ false
  none_by_mask_of empty k from_k below = grind (arith, nat_tests, cases_lt, none_from_empty_mask, is)

-- the mask of 32 bytes
module _ (test : ℕ → Bool) (bytes found : List ℕ) (from place mask : ℕ) (after : from ≤ place)
    (none : (k : ℕ) → from ≤ k → k < place → test (get_or bytes k 0) ≡ false)
    (stands : StandsAt bytes place found) (masks : mask ≡ mask_l (map test found)) where
  pub first_by_mask : 0 < mask → IsFirstPlace test bytes from (place + count_trailing_zeros 64 mask)
  first_by_mask = first_by_mask_of test bytes found from place 32 mask (omega arith) stands.room stands.bytes_there after none masks

  pub none_by_mask : mask ≡ 0 → (k : ℕ) → from ≤ k → k < place + 32 → test (get_or bytes k 0) ≡ false
  none_by_mask = none_by_mask_of test bytes found from place 32 mask (omega arith) stands.room stands.bytes_there after none masks

-- the mask of the bytes from a place on, as many as there are up to a number
module _ (test : ℕ → Bool) (bytes : List ℕ) (from place n mask : ℕ) (few : n ≤ 64) (within : place ≤ length bytes) (after : from ≤ place)
    (none : (k : ℕ) → from ≤ k → k < place → test (get_or bytes k 0) ≡ false)
    (masks : mask ≡ mask_l (map test (take n (drop place bytes)))) where
  abbrev there : ℕ
  there = min n (length bytes - place)

  same : take n (drop place bytes) ≡ chunk place there bytes
  same = sym (take_min n (drop place bytes)) ∙ ap (λ l. take (min n l) (drop place bytes)) (length-drop place bytes)

  pub first_by_part : 0 < mask → IsFirstPlace test bytes from (place + count_trailing_zeros 64 mask)
  first_by_part = first_by_mask_of test bytes (take n (drop place bytes)) from place there mask (omega arith) (omega arith) same after none masks

  pub inside_by_part : 0 < mask → place + count_trailing_zeros 64 mask < length bytes
  inside_by_part = inside_by_mask_of test bytes (take n (drop place bytes)) from place there mask (omega arith) (omega arith) same after none masks

  pub none_by_part : mask ≡ 0 → (k : ℕ) → from ≤ k → k < length bytes → k < place + n → test (get_or bytes k 0) ≡ false
  none_by_part empty k from_k inside below = none_by_mask_of test bytes (take n (drop place bytes)) from place there mask (omega arith) (omega arith) same after none masks empty k from_k (omega arith)

-- the bytes from a place on are bytes
pub rest_below_256 : (bytes : List ℕ) (from : ℕ) → from ≤ length bytes → ((k : ℕ) → Fits w8 (get_or bytes k 0)) → Each1 (λ b. b < 256) (drop from bytes)
rest_below_256 bytes from within fits =
    subst (Each1 (λ b. b < 256)) (slice_rest bytes from within) (below_from_Fits w8 _ (chunk-fits w8 from (length bytes - from) bytes fits))

-- the first of a block is the first from an earlier place on, where none is before it
pub first_of_block : (test : ℕ → Bool) (bytes : List ℕ) (from reached place mask : ℕ) → from ≤ reached → ((k : ℕ) → from ≤ k → k < reached → test (get_or bytes k 0) ≡ false)
    → IsFirstBlock test bytes reached place mask → 0 < mask → IsFirstPlace test bytes from (place + count_trailing_zeros 64 mask)
first_of_block test bytes from reached place mask later none first some =
    first_by_part test bytes from place 32 mask (omega arith) first.within (omega (arith, first.ordered))
    (λ k from_k below. elim (cases_lt k reached) [
      | inl earlier ↦ none k from_k earlier
      | inr following ↦ first.before k following below
    ]) first.is_mask some

pub inside_of_block : (test : ℕ → Bool) (bytes : List ℕ) (from place mask : ℕ) → IsFirstBlock test bytes from place mask → 0 < mask → place + count_trailing_zeros 64 mask < length bytes
inside_of_block test bytes from place mask first some = inside_by_part test bytes from place 32 mask (omega arith) first.within first.ordered first.before first.is_mask some

-- the first block from a place on is that from an earlier one, where no byte between them passes the test
pub first_block_from : (test : ℕ → Bool) (bytes : List ℕ) (from reached place mask : ℕ) → IsPassed test bytes from reached → IsFirstBlock test bytes reached place mask
    → IsFirstBlock test bytes from place mask
first_block_from test bytes from reached place mask passed first = grind (arith, nat_tests)

pub passed_more : (test : ℕ → Bool) (bytes : List ℕ) (from middle reached : ℕ) → IsPassed test bytes from middle → IsPassed test bytes middle reached → IsPassed test bytes from reached
passed_more test bytes from middle reached first second = grind (arith, nat_tests)

-- what an empty mask of 32 bytes tells
pub passed_by_mask : (test : ℕ → Bool) (bytes found : List ℕ) (place mask : ℕ) → StandsAt bytes place found → mask ≡ mask_l (map test found) → mask ≡ 0 → IsPassed test bytes place (place + 32)
passed_by_mask test bytes found place mask stands masks empty = record {
  ordered = omega arith;
  within = omega (arith, stands.room);
  none = none_by_mask test bytes found place place mask (omega arith) (λ k from_k below. absurd (omega arith)) stands masks empty;
}
