use Rattle.std.proofs.Common.{◌≡◌, ap, map, ◌∙◌}
use Rattle.hesc_scan.specs.Entries.{added_to}
use Rattle.hesc_scan.proofs.Classes.Entries.{table_stands_twice}
use Rattle.hesc_scan.proofs.LaneMaps.{few_lanes}
use Rattle.hesc_scan.proofs.Lengths.HtmlSums.{added_by_entries, added_length, few_added}
use Rattle.hesc_scan.proofs.lookup.entries.EntriesAddedLength.of_lanes.Goals as goal

pub added-requires-clause-twice : goal.added-requires-clause-twice
added-requires-clause-twice c = rw c.args.self.now.of_class (table_stands_twice c.args.self.now.class)

of_class : (c : goal.After-added) → c.added.result ≡ map (added_length c.args.self.now.class) c.args.v
of_class c =
    let entries = c.args.self.now in
    c.added.ensures ∙ ap (λ t. map (added_to t) c.args.v) entries.of_class ∙ added_by_entries entries.class entries.html entries.quoted c.args.v c.requires

pub returns-clause-added : goal.returns-clause-added
returns-clause-added c = of_class c

pub returns-clause-few : goal.returns-clause-few
returns-clause-few c = rw (of_class c) (few_lanes _ c.args.v (few_added c.args.self.now.class c.args.self.now.html) c.requires)
