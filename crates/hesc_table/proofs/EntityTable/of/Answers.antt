use Rattle.std.proofs.Common.{refl}
use Rattle.hesc_table.proofs.Candidates.{not_complete}
use Rattle.hesc_table.proofs.EntityTable.of.Goals as goal

pub invariant_of-result : goal.invariant_of-result
invariant_of-result c = record { good = c.requires; grows = refl; complete = not_complete _ _ }
