use Rattle.std.proofs.Common.{◌==◌, arith}
use Rattle.std.proofs.lemmas.Simd.{zip2_splat, zip2_of_maps}
use Rattle.hesc_scan.proofs.LaneLemmas.{either_set, mask_by}
use Rattle.hesc_scan.proofs.lanes.hits_of_two.Goals as goal

pub returns : goal.returns
returns c =
    let v = c.args.v in
    let long = c.fits-v.0 in
    mask_by _ _ v _ (omega (arith, long)) (zip2_of_maps _ _ _ v (zip2_splat _ v 32 c.args.one long) (zip2_splat _ v 32 c.args.other long)) (λ b. either_set (b == c.args.one) (b == c.args.other))
