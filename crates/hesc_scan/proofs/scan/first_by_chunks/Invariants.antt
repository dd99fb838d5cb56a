use Rattle.std.proofs.Common.{◌≡◌, ◌≤◌, ◌<◌, ◌+◌, ◌*◌, ℕ, false, length, slice_index}
use Rattle.hesc_scan.proofs.scan.first_by_chunks.Given as goal

-- no byte of the chunks so far is in the class
abbrev pub invariant-loop-chunk : goal.invariant-loop-chunk
invariant-loop-chunk g l = record {
  place : l.place ≡ l.from + 32 * l.chunk-index;
  within : l.place ≤ length l.bytes;
  none : (k : ℕ) → l.from ≤ k → k < l.place → g.L.Lookup.has l.lookup (slice_index l.bytes k) ≡ false;
}
