use Rattle.std.proofs.Common.{◌-◌, length}
use Rattle.hesc_sinks.proofs.Hits.{Storing}
use Rattle.hesc_sinks.specs.Hits.{ascii_rows}
use Rattle.hesc_sinks.proofs.sinks.stores.store_hits_by_blocks.Given as goal

abbrev pub invariant-storing : goal.invariant-storing
invariant-storing l = Storing (ascii_rows l.texts) l.text l.fn.from l.fn.hits l.reached l.left l.fn.room l.room l.place l.end

abbrev pub decreases-storing : goal.decreases-storing
decreases-storing l = length l.text - l.reached
