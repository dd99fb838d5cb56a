use Rattle.std.proofs.Common.{ℕ, ◌==◌, cond, bit_and, refl, subst, sym, ◌∙◌, ◌≤◌}
use Rattle.std.proofs.lemmas.Simd.{splat_is_map, zip2_of_maps, zip2_splat}
use Rattle.hesc_specs.specs.declared.classes.Class.TheVariants.{UnquotedAttribute}
use Rattle.std.specs.Simd.Lanes.{Each1}
use Rattle.hesc_scan.proofs.LaneMaps.{few_lanes, same_lanes, selected}
use Rattle.hesc_scan.proofs.Lengths.HtmlSums.{added_length}
use Rattle.hesc_scan.proofs.lookup.symbols.SymbolsAddedLength.of_lanes.Goals as goal

pub returns-clause-added : goal.returns-clause-added
returns-clause-added c =
    let v = c.args.v in
    let long = c.fits-v.0 in
    let symbols = zip2_of_maps bit_and _ _ v c.symbols_of.ensures (splat_is_map v 32 5 long) in
    let ampersand = selected _ _ _ v _ _ _ (zip2_splat _ v 32 38 long) (splat_is_map v 32 4 long) symbols in
    let angle = zip2_of_maps (λ a b. cond (a == b) 255 0) _ _ v (zip2_splat {Y = ℕ} _ v 32 2 long) (splat_is_map v 32 62 long) in
    selected _ _ _ v _ _ _ angle (splat_is_map v 32 3 long) ampersand ∙ same_lanes _ (added_length UnquotedAttribute) v c.requires refl

pub returns-clause-few : goal.returns-clause-few
returns-clause-few c = subst (Each1 (λ a. a ≤ 5)) (sym (returns-clause-added c)) (few_lanes _ c.args.v refl c.requires)
