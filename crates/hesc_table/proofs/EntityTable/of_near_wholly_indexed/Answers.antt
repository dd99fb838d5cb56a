use Rattle.std.proofs.Common.{rules}
use Rattle.hesc_table.specs.Index.{is_index_of}
use Rattle.hesc_table.proofs.EntityTable.of_near_wholly_indexed.Goals as goal

pub invariant_of-table-clause-complete : goal.invariant_of-table-clause-complete
unfolding is_index_of
invariant_of-table-clause-complete c = search rules
