use Rattle.std.proofs.Common.{◌==◌, ◌/◌, not, cond, get_or, map, refl, ◌∙◌, arith}
use Rattle.std.proofs.lemmas.Simd.{splat_is_map, zip2_of_maps, zip2_splat}
use Rattle.hesc_scan.specs.Groups.{in_groups}
use Rattle.hesc_scan.specs.declared.lookup.groups.TheConstants.{ADDED}
use Rattle.hesc_scan.proofs.LaneLemmas.{one_set}
use Rattle.hesc_scan.proofs.LaneMaps.{selected}
use Rattle.hesc_scan.proofs.Lookups.{high_nibble, high_nibbles_fit, looked_up, stands_twice}
use Rattle.hesc_scan.proofs.lookup.groups.added.Goals as goal

pub swizzle-added : goal.swizzle-added
swizzle-added c = high_nibbles_fit c.args.v c.fits-v.0 c.requires

pub returns : goal.returns
returns c =
    let v = c.args.v in
    let long = c.fits-v.0 in
    let masks = zip2_of_maps (λ a b. cond (not (a == b)) 255 0) _ _ v c.wanted_of_each.ensures (splat_is_map v 32 0 long) in
    let added = looked_up ADDED (stands_twice ADDED refl) (λ b. b / 16) (λ b below. omega arith) v _ long c.requires (zip2_splat high_nibble v 32 4 long) in
    selected _ _ _ v _ _ _ masks added (splat_is_map v 32 0 long)
    ∙ (λ i. map (λ b. cond (one_set (in_groups c.args.wanted b) i) (get_or ADDED (b / 16) 0) 0) v)
