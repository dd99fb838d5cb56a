use Rattle.std.proofs.Common.{◌≡◌, drop}
use Rattle.hesc_table.specs.Rows.{are_near, rows_in}
use Rattle.hesc_table.proofs.growth.are_near.Given as goal

-- the rows are near if those that are left are
abbrev pub invariant-loop-row : goal.invariant-loop-row
invariant-loop-row l = are_near (rows_in l.rows) ≡ are_near (rows_in (drop l.row-index l.rows))
