use Rattle.std.proofs.Common.{sym, ◌∙◌}
use Rattle.std.proofs.lemmas.Bool.{eq-eqb, eqb-true}
use Rattle.hesc_scan.proofs.Classes.Flags.{bit_tells}
use Rattle.hesc_scan.proofs.flags.flags_agree.Goals as goal

pub returns : goal.returns
returns c =
    let tells = bit_tells c.args.class c.args.byte c.ranges.byte.fits in
    (λ set. sym tells ∙ eq-eqb _ _ set, λ has. eqb-true _ _ (tells ∙ has))
