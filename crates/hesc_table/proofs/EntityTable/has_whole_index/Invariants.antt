use Rattle.std.proofs.Common.{◌≡◌, ◌+◌, length}
use Rattle.hesc_table.specs.Index.{are_candidates, seeds_of, slots_of}
use Rattle.hesc_table.specs.Rows.{rows_in}
use Rattle.hesc_table.specs.Table.{has_whole_index}
use Rattle.hesc_table.proofs.EntityTable.has_whole_index.Given as goal

-- the rows before the rest are as they should be
abbrev pub invariant-rows : goal.invariant-rows
invariant-rows l = record {
  counted : l.number + length l.rest ≡ length l.self.rows.now;
  same : are_candidates (seeds_of l.self.index) (slots_of l.self.index) l.number (rows_in l.rest) ≡ has_whole_index l.self;
}

abbrev pub decreases-rows : goal.decreases-rows
decreases-rows l = length l.rest
