use Rattle.std.proofs.Common.{ap, map, ◌∙◌}
use Rattle.std.specs.Simd.Lanes.{mask_l}
use Rattle.hesc_scan.specs.Groups.{in_groups}
use Rattle.hesc_scan.proofs.Classes.Groups.{mask_by_groups}
use Rattle.hesc_scan.proofs.lookup.groups.GroupsLookup.hits.Goals as goal

pub returns : goal.returns
returns c =
    let groups = c.args.self.now in
    mask_by_groups groups.class groups.string c.args.v _ c.requires (c.hits_of_groups.ensures ∙ ap (λ wanted. mask_l (map (in_groups wanted) c.args.v)) groups.of_class)
