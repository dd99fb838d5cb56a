use Rattle.std.proofs.Common.{◌-◌, length}
use Rattle.hesc_sinks.proofs.Hits.{Storing}
use Rattle.hesc_sinks.specs.Hits.{ascii_rows}
use Rattle.hesc_sinks.proofs.sinks.stores.store_last_hits.Given as goal

abbrev pub invariant-ending : goal.invariant-ending
invariant-ending l = Storing (ascii_rows l.texts) l.text l.fn.from l.fn.hits l.reached l.last l.fn.room l.room l.place l.end

abbrev pub decreases-ending : goal.decreases-ending
decreases-ending l = length l.text - l.reached
