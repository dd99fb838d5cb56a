-- The bytes that a block stands for, among the lanes of its vector.
use Rattle.std.specs.Prelude.{◌≡◌, ℕ, ◌≤◌, ◌<◌, Bool, false, List, ◌++◌, drop, length, map, slice_index, take}
use Rattle.std.specs.Simd.Lanes.{mask_l}
use Rattle.hesc_scan.specs.declared.block.Block.{Block}

abbrev pub block_lanes : Block → List ℕ
block_lanes block = block.lanes

-- those of the first lanes, and those of the last
abbrev pub block_bytes : Block → List ℕ
block_bytes block = take block.front block.lanes ++ drop block.skip block.lanes

-- the mask of the bytes from a place on, of 32 at most: bit k tells whether the byte k further on passes the test
abbrev pub mask_from : (ℕ → Bool) → List ℕ → ℕ → ℕ
mask_from test bytes place = mask_l (map test (take 32 (drop place bytes)))

-- no byte from one place up to another passes the test, and the mask from there on is that of some which do, or nothing is left
pub record IsFirstBlock (test : ℕ → Bool) (bytes : List ℕ) (from place mask : ℕ) : Type 0 where
  pub ordered : from ≤ place
  pub within : place ≤ length bytes
  pub before : (k : ℕ) → from ≤ k → k < place → test (slice_index bytes k) ≡ false
  pub is_mask : mask ≡ mask_from test bytes place
  pub none : mask ≡ 0 → place ≡ length bytes

-- no byte from one place up to another passes the test
pub record IsPassed (test : ℕ → Bool) (bytes : List ℕ) (from place : ℕ) : Type 0 where
  pub ordered : from ≤ place
  pub within : place ≤ length bytes
  pub none : (k : ℕ) → from ≤ k → k < place → test (slice_index bytes k) ≡ false
