use Rattle.std.proofs.Common.{◌≡◌, ◌≤◌, ◌*◌, length, take}
use Rattle.std.specs.List.{sum_by}
use Rattle.std.specs.Simd.Lanes.{Each1, sum_l}
use Rattle.hesc_scan.proofs.length.added.added_to_blocks.Given as goal

-- the lanes together are what is added to the blocks so far, and each has at most five bytes of each block
abbrev pub invariant-loop-chunk : goal.invariant-loop-chunk
invariant-loop-chunk g l = record {
  long : length l.sums ≡ 32;
  few : Each1 (λ a. a ≤ 5 * l.chunk-index) l.sums;
  sum : sum_l l.sums ≡ sum_by (g.L.AddedLength.of_byte l.added) (take (32 * l.chunk-index) l.bytes);
}
