use Rattle.std.proofs.Common.{arith}
use Rattle.hesc_sinks.proofs.Stores.{stored_first}
use Rattle.hesc_sinks.proofs.sinks.stores.store_short.Goals as goal

pub returns-then-bytes : goal.returns-then-bytes
returns-then-bytes g c =
    stored_first c.args.room.now c.store_block.new.room c.args.bytes.now c.args.place g.row.N c.args.count _ (omega arith) (omega arith) (omega (arith, c.requires.fits)) c.store_block.ensures
