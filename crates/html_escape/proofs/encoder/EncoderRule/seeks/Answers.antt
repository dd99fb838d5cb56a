use Rattle.std.proofs.Common.{◌≡◌, ◌∙◌, ap, sym}
use Rattle.hesc_specs.specs.Text.Escaped.{escape_changes}
use Rattle.html_escape.specs.Encoders.{encoder_changes}
use Rattle.html_escape.specs.Replaced.{replaced_changes, replaced_of}
use Rattle.html_escape.specs.declared.encoder.Replaced.TheVariants.{Characters}
use Rattle.html_escape.proofs.encoder.EncoderRule.seeks.Goals as goal

pub returns-in-Characters-clause-replaces : goal.returns-in-Characters-clause-replaces
returns-in-Characters-clause-replaces c =
    let of : replaced_of c.args.self.now ≡ Characters c.in-Characters.class = sym c.replaced_by.ensures.is ∙ c.in-Characters.is in
    let changes : encoder_changes c.args.self.now ≡ escape_changes c.in-Characters.class = c.replaced_by.ensures.changes ∙ ap replaced_changes c.in-Characters.is in
    rw (of, changes) c.seeks.ensures.replaces
