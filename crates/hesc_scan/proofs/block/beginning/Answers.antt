use Rattle.std.proofs.Common.{take, arith, length-take-le}
use Rattle.std.proofs.lemmas.Simd.{take_more_put_chunk}
use Rattle.hesc_scan.proofs.block.beginning.Goals as goal

pub returns : goal.returns
returns g c =
    take_more_put_chunk 0 c.no_bytes-lanes.result (take g.row.N c.args.bytes.now) g.row.N
    (omega (arith, length-take-le g.row.N c.args.bytes.now c.requires.there)) (omega (arith, c.requires.small))
