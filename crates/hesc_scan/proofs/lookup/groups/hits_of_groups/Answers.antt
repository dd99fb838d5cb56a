use Rattle.std.proofs.Common.{◌==◌, not, cond, arith}
use Rattle.std.proofs.lemmas.Simd.{splat_is_map, zip2_of_maps}
use Rattle.hesc_scan.specs.Groups.{in_groups}
use Rattle.hesc_scan.proofs.LaneLemmas.{mask_by, one_set}
use Rattle.hesc_scan.proofs.lookup.groups.hits_of_groups.Goals as goal

pub returns : goal.returns
returns c =
    let v = c.args.v in
    let long = c.fits-v.0 in
    mask_by _ _ v _ (omega (arith, long)) (zip2_of_maps (λ a b. cond (not (a == b)) 255 0) _ _ v c.wanted_of_each.ensures (splat_is_map v 32 0 long))
    (λ b. one_set (in_groups c.args.wanted b))
