use Rattle.std.proofs.Common.{◌-◌, ◌≤◌}
use Rattle.hesc_scan.specs.Blocks.{IsPassed}
use Rattle.hesc_scan.proofs.scan.first_by_pairs.Given as goal

-- no byte so far is in the class, and what is searched is not passed
abbrev pub invariant-pairs : goal.invariant-pairs
invariant-pairs g l = record {
  passed : IsPassed (g.L.Lookup.has l.lookup) l.bytes l.from l.place;
  before : l.place ≤ l.end;
}

abbrev pub decreases-pairs : goal.decreases-pairs
decreases-pairs g l = l.end - l.place
