use Rattle.hesc_table.proofs.Candidates.{not_complete}
use Rattle.hesc_table.proofs.EntityTable.of_near_indexed.Goals as goal

pub invariant_of-result-clause-complete : goal.invariant_of-result-clause-complete
invariant_of-result-clause-complete c = not_complete _ _
