use Rattle.std.proofs.Common.{◌≡◌, drop}
use Rattle.hesc_specs.specs.References.Rows.{are_short}
use Rattle.hesc_table.specs.Rows.{rows_in}
use Rattle.hesc_table.proofs.growth.are_short.Given as goal

-- the rows are short if those that are left are
abbrev pub invariant-loop-row : goal.invariant-loop-row
invariant-loop-row l = are_short (rows_in l.rows) ≡ are_short (rows_in (drop l.row-index l.rows))
