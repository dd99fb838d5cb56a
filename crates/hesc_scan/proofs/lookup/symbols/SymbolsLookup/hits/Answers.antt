use Rattle.std.proofs.Common.{◌==◌, Bool, true, false, ◌≡◌, not, cond, refl, arith}
use Rattle.std.proofs.lemmas.Simd.{splat_is_map, zip2_of_maps}
use Rattle.std.specs.Simd.Lanes.{top}
use Rattle.hesc_specs.specs.Text.Classes.{in_class}
use Rattle.hesc_specs.specs.declared.classes.Class.TheVariants.{UnquotedAttribute}
use Rattle.hesc_scan.proofs.LaneLemmas.{mask_by}
use Rattle.hesc_scan.proofs.lookup.symbols.SymbolsLookup.hits.Goals as goal

set : (is : Bool) → top 7 (cond (not (cond is 255 0 == 0)) 255 0) ≡ is
set true = refl
set false = refl

pub returns : goal.returns
returns c =
    let v = c.args.v in
    let long = c.fits-v.0 in
    mask_by (in_class UnquotedAttribute) _ v _ (omega (arith, long)) (zip2_of_maps (λ a b. cond (not (a == b)) 255 0) _ _ v c.symbols_of.ensures (splat_is_map v 32 0 long))
    (λ b. set (in_class UnquotedAttribute b))
