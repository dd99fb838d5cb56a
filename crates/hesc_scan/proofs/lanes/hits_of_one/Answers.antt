use Rattle.std.proofs.Common.{◌==◌, arith}
use Rattle.std.proofs.lemmas.Simd.{zip2_splat}
use Rattle.hesc_scan.proofs.LaneLemmas.{mask_by, one_set}
use Rattle.hesc_scan.proofs.lanes.hits_of_one.Goals as goal

pub returns : goal.returns
returns c = let v = c.args.v in mask_by _ _ v _ (omega (arith, c.fits-v.0)) (zip2_splat _ v 32 c.args.byte c.fits-v.0) (λ b. one_set (b == c.args.byte))
