use Rattle.std.proofs.Common.{◌≡◌, ◌≤◌, ◌+◌, ◌-◌, length, take}
use Rattle.std.specs.List.{sum_by}
use Rattle.hesc_scan.proofs.length.added.total_length.Given as goal

-- the length of the bytes, and what is added to those so far
abbrev pub invariant-counting : goal.invariant-counting
invariant-counting g l = record {
  within : l.place ≤ length l.bytes;
  count : l.count ≡ length l.bytes + sum_by (g.L.AddedLength.of_byte l.added) (take l.place l.bytes);
}

abbrev pub decreases-counting : goal.decreases-counting
decreases-counting g l = length l.bytes - l.place
