use Rattle.std.proofs.Common.{ℕ, leb, cond, bit_and, refl, ◌∙◌}
use Rattle.std.proofs.lemmas.Simd.{zip2_splat, zip2_of_maps, splat_is_map}
use Rattle.hesc_scan.proofs.LaneMaps.{same_lanes, selected}
use Rattle.hesc_scan.proofs.lookup.symbols.symbols_of.Goals as goal

pub returns : goal.returns
returns c =
    let v = c.args.v in
    let long = c.fits-v.0 in
    let masks = zip2_of_maps bit_and _ _ v (zip2_of_maps bit_and _ _ v (zip2_splat _ v 32 128 long) (zip2_of_maps (λ a b. cond (leb a b) 255 0) _ _ v (splat_is_map v 32 26 long) (zip2_of_maps _ _ _ v (zip2_splat {Y = ℕ} _ v 32 32 long) (splat_is_map v 32 97 long)))) (zip2_of_maps (λ a b. cond (leb a b) 255 0) _ _ v (splat_is_map v 32 10 long) (zip2_splat {Y = ℕ} _ v 32 48 long)) in
    selected _ _ _ v _ _ _ masks (splat_is_map v 32 255 long) (splat_is_map v 32 0 long) ∙ same_lanes _ _ v c.requires refl
