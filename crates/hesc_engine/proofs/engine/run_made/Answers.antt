use Rattle.std.proofs.Common.{◌∙◌, refl, sym}
use Rattle.hesc_sinks.proofs.Took.{both, failed, first_some}
use Rattle.hesc_engine.proofs.engine.run_made.Goals as goal

pub segment_before-segment-requires-clause-from_boundary : goal.segment_before-segment-requires-clause-from_boundary
segment_before-segment-requires-clause-from_boundary g c =
    c.args.made.now.boundary

pub returns-in_err-put_segment : goal.returns-in_err-put_segment
returns-in_err-put_segment g c =
    let begins = sym c.args.made.now.makes ∙ c.segment_before-segment.ensures.first c.args.made.now.first refl refl (g.R.Rule.changes_from c.args.made.now.rule.now c.args.made.now.text.now) c.args.made.now.is_first in
    failed _ _ _ c.from_residual.result c.from_residual.ensures.0 (rw begins (first_some _ _ _ _ c.in_err-put_segment.ensures))

pub returns : goal.returns
returns g c =
    let begins = sym c.args.made.now.makes ∙ c.segment_before-segment.ensures.first c.args.made.now.first refl refl (g.R.Rule.changes_from c.args.made.now.rule.now c.args.made.now.text.now) c.args.made.now.is_first in
    rw begins (both _ _ _ _ _ c.run_from.result c.in_ok-put_segment.ensures c.run_from.ensures)
