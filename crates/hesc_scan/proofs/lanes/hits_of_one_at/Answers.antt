use Rattle.std.proofs.Common.{◌==◌, arith, drop, take}
use Rattle.std.proofs.lemmas.Simd.{length-chunk, zip2_splat}
use Rattle.hesc_scan.proofs.LaneLemmas.{mask_by, one_set}
use Rattle.hesc_scan.proofs.lanes.hits_of_one_at.Goals as goal

pub returns : goal.returns
returns g c =
    let there = take g.row.N (drop c.args.place c.args.bytes.now) in
    let long = length-chunk c.args.place g.row.N c.args.bytes.now c.requires.there in
    mask_by _ _ there _ (omega (arith, long, c.requires.few)) (zip2_splat _ there g.row.N c.args.byte long) (λ b. one_set (b == c.args.byte))
