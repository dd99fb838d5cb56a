use Rattle.std.proofs.Common.{ap, map, ◌∙◌}
use Rattle.std.specs.Simd.Lanes.{mask_l}
use Rattle.hesc_scan.specs.Entries.{is_entry}
use Rattle.hesc_scan.proofs.Classes.Entries.{mask_by_table, table_stands_twice}
use Rattle.hesc_scan.proofs.lookup.entries.EntriesLookup.hits.Goals as goal

pub hits_of_entries-requires-clause-twice : goal.hits_of_entries-requires-clause-twice
hits_of_entries-requires-clause-twice c = rw c.args.self.now.of_class (table_stands_twice c.args.self.now.class)

pub returns : goal.returns
returns c =
    let entries = c.args.self.now in
    mask_by_table entries.class entries.html entries.quoted c.args.v _ c.requires (c.hits_of_entries.ensures ∙ ap (λ t. mask_l (map (is_entry t) c.args.v)) entries.of_class)
