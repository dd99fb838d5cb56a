use Rattle.hesc_sinks.proofs.Stores.{stored_then}
use Rattle.hesc_sinks.proofs.sinks.stores.store_both.Goals as goal

pub returns : goal.returns
returns g c = stored_then _ _ _ _ _ _ _ _ c.store_short-middle.ensures c.store_at.ensures.stored
