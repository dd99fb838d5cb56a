use Rattle.std.proofs.Common.{refl, subst, sym, ◌∙◌, ◌≤◌}
use Rattle.std.proofs.lemmas.Simd.{splat_is_map, zip2_splat}
use Rattle.std.specs.Simd.Lanes.{Each1}
use Rattle.hesc_scan.proofs.LaneMaps.{few_lanes, same_lanes, selected}
use Rattle.hesc_scan.proofs.length.bodies.OneForEachLessAddedLength.of_lanes.Goals as goal

pub returns-clause-added : goal.returns-clause-added
returns-clause-added c =
    let v = c.args.v in
    let long = c.fits-v.0 in
    selected _ _ _ v _ _ _ (zip2_splat _ v 32 60 long) (splat_is_map v 32 1 long) (splat_is_map v 32 0 long) ∙ same_lanes _ _ v c.requires refl

pub returns-clause-few : goal.returns-clause-few
returns-clause-few c = subst (Each1 (λ a. a ≤ 5)) (sym (returns-clause-added c)) (few_lanes _ c.args.v refl c.requires)
