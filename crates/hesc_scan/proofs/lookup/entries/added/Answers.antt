use Rattle.std.proofs.Common.{◌==◌, cond, map, sym, ◌∙◌}
use Rattle.std.proofs.lemmas.List.{map-id}
use Rattle.std.proofs.lemmas.Simd.{splat_is_map, zip2_of_maps}
use Rattle.hesc_scan.specs.Entries.{entry, is_entry}
use Rattle.hesc_scan.specs.declared.lookup.entries.TheConstants.{ADDED}
use Rattle.hesc_scan.proofs.LaneLemmas.{one_set}
use Rattle.hesc_scan.proofs.LaneMaps.{selected}
use Rattle.hesc_scan.proofs.lookup.entries.added.Goals as goal

pub returns : goal.returns
returns c =
    let v = c.args.v in
    let long = c.fits-v.0 in
    let table = c.args.table.now in
    let masks = zip2_of_maps (λ a b. cond (a == b) 255 0) (λ b. b) (entry table) v (sym (map-id v)) c.entry_of_each.ensures in
    selected _ _ _ v _ _ _ masks c.entry_of_each-added.ensures (splat_is_map v 32 0 long)
    ∙ (λ i. map (λ b. cond (one_set (is_entry table b) i) (entry ADDED b) 0) v)
