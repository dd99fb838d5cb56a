use Rattle.hesc_sinks.proofs.Hits.{stored_hits_then}
use Rattle.hesc_sinks.proofs.sinks.stores.store_hits.Goals as goal

pub returns-clause-stored : goal.returns-clause-stored
returns-clause-stored c =
    let blocks = c.store_hits_by_blocks-end.ensures in
    stored_hits_then _ _ _ _ _ _ _ _ _ _ _ _ _ blocks.left blocks.stored c.store_last_hits.ensures.stored
