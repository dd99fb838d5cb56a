use Rattle.std.proofs.Common.{◌==◌, cond, sym, arith}
use Rattle.std.proofs.lemmas.List.{map-id}
use Rattle.std.proofs.lemmas.Simd.{zip2_of_maps}
use Rattle.hesc_scan.specs.Entries.{is_entry}
use Rattle.hesc_scan.proofs.LaneLemmas.{mask_by, one_set}
use Rattle.hesc_scan.proofs.lookup.entries.hits_of_entries.Goals as goal

pub returns : goal.returns
returns c =
    let v = c.args.v in
    let long = c.fits-v.0 in
    mask_by _ _ v _ (omega (arith, long)) (zip2_of_maps (λ a b. cond (a == b) 255 0) (λ b. b) _ v (sym (map-id v)) c.entry_of_each.ensures)
    (λ b. one_set (is_entry c.args.table.now b))
