use Rattle.std.proofs.Common.{◌≡◌, ◌∙◌, ap, sym}
use Rattle.hesc_specs.specs.Bodies.Changes.{body_decoding_changes}
use Rattle.hesc_specs.specs.References.Changes.{reference_changes}
use Rattle.hesc_table.specs.NamedRows.{named_rows}
use Rattle.html_escape.specs.Decoders.{decoder_changes}
use Rattle.html_escape.specs.Restored.{restored_changes, restored_of}
use Rattle.html_escape.specs.declared.decoder.Restored.TheVariants.{Openings, References}
use Rattle.html_escape.proofs.decoder.DecoderRule.seeks.Goals as goal

pub returns-in-References-clause-ends : goal.returns-in-References-clause-ends
returns-in-References-clause-ends c =
    let of : restored_of c.args.self.now ≡ References = sym c.restored_by.ensures.is ∙ c.in-References.is in
    let changes : decoder_changes c.args.self.now ≡ reference_changes named_rows = c.restored_by.ensures.changes ∙ ap restored_changes c.in-References.is in
    rw (of, changes) (rw c.built_in.ensures.rows at c.seeks.ensures.ends)

pub returns-in-Openings-clause-ends : goal.returns-in-Openings-clause-ends
returns-in-Openings-clause-ends c =
    let of : restored_of c.args.self.now ≡ Openings c.in-Openings.element = sym c.restored_by.ensures.is ∙ c.in-Openings.is in
    let changes : decoder_changes c.args.self.now ≡ body_decoding_changes c.in-Openings.element = c.restored_by.ensures.changes ∙ ap restored_changes c.in-Openings.is in
    rw (of, changes) c.seeks-in-Openings.ensures.ends
