use Rattle.std.proofs.Common.{◌≡◌, None, length}
use Rattle.hesc_specs.specs.References.TableFaults.{faults_below, missing_below}
use Rattle.hesc_table.specs.Rows.{rows_in}
use Rattle.hesc_table.proofs.EntityTable.new.Given as goal

-- no row so far has a fault
abbrev pub invariant-loop-i : goal.invariant-loop-i
invariant-loop-i l = faults_below (rows_in l.rows) l.i ≡ None

-- no row has a fault, and no common name so far is missing
abbrev pub invariant-loop-k : goal.invariant-loop-k
invariant-loop-k l = record {
  faultless : faults_below (rows_in l.rows) (length (rows_in l.rows)) ≡ None;
  there : missing_below (rows_in l.rows) l.k ≡ None;
}
