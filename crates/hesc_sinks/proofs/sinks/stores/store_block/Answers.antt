use Rattle.std.proofs.Common.{take, arith, length-take-le}
use Rattle.std.proofs.lemmas.Simd.{length-put_chunk, take_more_put_chunk}
use Rattle.hesc_sinks.proofs.sinks.stores.store_block.Goals as goal

pub returns : goal.returns
returns g c =
    let long = length-take-le g.row.N c.args.bytes.now c.requires.there in
    record {
      before = take_more_put_chunk c.args.place c.args.room.now (take g.row.N c.args.bytes.now) _ (omega (arith, long)) c.requires.fits;
      after = omega (arith, long);
      long = length-put_chunk c.args.place c.args.room.now (take g.row.N c.args.bytes.now);
    }
