use Rattle.std.proofs.Common.{◌≤◌, ◌-◌, length}
use Rattle.hesc_table.specs.Table.{rows_of}
use Rattle.hesc_table.proofs.Halving.{Below, Above}
use Rattle.hesc_table.proofs.EntityTable.get_by_halving.Given as goal

-- the rows that are not looked at any more are of lower and of higher names
abbrev pub invariant-halving : goal.invariant-halving
invariant-halving l = record {
  within : l.high ≤ length l.self.rows.now;
  below : Below (rows_of l.self) l.name l.low;
  above : Above (rows_of l.self) l.name l.high;
}

abbrev pub decreases-halving : goal.decreases-halving
decreases-halving l = l.high - l.low
