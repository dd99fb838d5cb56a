use Rattle.std.proofs.Common.{◌≡◌, ap, map, ◌∙◌}
use Rattle.hesc_scan.specs.Groups.{added_to}
use Rattle.hesc_scan.proofs.LaneMaps.{few_lanes}
use Rattle.hesc_scan.proofs.Lengths.StringSums.{added_by_groups, few_added}
use Rattle.hesc_specs.proofs.Strings.Bound.{added_length}
use Rattle.hesc_scan.proofs.lookup.groups.GroupsAddedLength.of_lanes.Goals as goal

of_class : (c : goal.After-added) → c.added.result ≡ map (added_length c.args.self.now.class) c.args.v
of_class c =
    let groups = c.args.self.now in
    c.added.ensures ∙ ap (λ wanted. map (added_to wanted) c.args.v) groups.of_class ∙ added_by_groups groups.class groups.string c.args.v c.requires

pub returns-clause-added : goal.returns-clause-added
returns-clause-added c = of_class c

pub returns-clause-few : goal.returns-clause-few
returns-clause-few c = rw (of_class c) (few_lanes _ c.args.v (few_added c.args.self.now.class c.args.self.now.string) c.requires)
