use Rattle.std.proofs.Common.{◌-◌, length, arith}
use Rattle.std.proofs.lemmas.List.{take_rest}
use Rattle.hesc_sinks.proofs.Stores.{stored_ends}
use Rattle.hesc_sinks.proofs.sinks.stores.store_ends.Goals as goal

pub returns : goal.returns
returns g c =
    stored_ends c.args.room.now c.store_block.new.room _ c.args.bytes.now _ c.args.place g.row.N _ _ c.requires.one c.requires.both (omega (arith, c.requires.fits)) c.store_block.ensures (take_rest c.args.bytes.now (length c.args.bytes.now - g.row.N)) c.store_block-2.ensures
