-- What is known of the bytes ahead is true of a source.
use Rattle.std.specs.Prelude.{◌≡◌, ℕ, Bool, List, drop, map, take}
use Rattle.std.specs.Simd.Lanes.{mask_l}
use Rattle.hesc_engine.specs.declared.ahead.Ahead.{Ahead}

-- a bit is set exactly where the byte is sought, among 32 from the start on
abbrev pub IsAhead : (ℕ → Bool) → List ℕ → Ahead → Type 0
IsAhead is_sought source ahead = ahead.hits ≡ mask_l (map is_sought (take 32 (drop ahead.start source)))
