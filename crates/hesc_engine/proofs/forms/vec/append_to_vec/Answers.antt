use Rattle.std.proofs.Common.{◌∙◌, ap, sym}
use Rattle.hesc_specs.specs.Text.Changes.{applied}
use Rattle.hesc_engine.proofs.forms.vec.append_to_vec.Goals as goal

pub returns-in-None-clause-appended : goal.returns-in-None-clause-appended
returns-in-None-clause-appended g c =
    rw (← (sym (ap (applied c.args.text.now 0) c.in-None.ensures.none) ∙ g.met.R.Rule.makes c.args.rule.now c.args.text.now c.utf8.text)) c.append_kept.ensures.appended
