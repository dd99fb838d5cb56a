use Rattle.std.proofs.Common.{bit_and}
use Rattle.std.proofs.lemmas.Simd.{splat_is_map, zip2_of_maps}
use Rattle.hesc_scan.specs.Groups.{by_high, by_low}
use Rattle.hesc_scan.proofs.lookup.groups.wanted_of_each.Goals as goal

pub returns : goal.returns
returns c =
    let v = c.args.v in
    zip2_of_maps bit_and _ _ v (zip2_of_maps bit_and by_low by_high v c.by_low_nibble.ensures c.by_high_nibble.ensures) (splat_is_map v 32 c.args.wanted c.fits-v.0)
