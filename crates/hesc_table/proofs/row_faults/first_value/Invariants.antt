use Rattle.std.proofs.Common.{◌≡◌, drop}
use Rattle.hesc_specs.specs.References.Rows.{value_of}
use Rattle.hesc_table.specs.Rows.{rows_in}
use Rattle.hesc_table.proofs.row_faults.first_value.Given as goal

-- no row so far has the name
abbrev pub invariant-loop-row : goal.invariant-loop-row
invariant-loop-row l = value_of (rows_in l.rows) l.name ≡ value_of (rows_in (drop l.row-index l.rows)) l.name
