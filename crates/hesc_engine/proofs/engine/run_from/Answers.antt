use Rattle.std.proofs.Common.{◌∙◌, ap, sym, refl}
use Rattle.hesc_specs.specs.Text.Changes.{applied}
use Rattle.hesc_sinks.specs.Text.{segment_bytes}
use Rattle.hesc_sinks.proofs.Took.{Progress-none, Progress-more, Progress-stop, Progress-end, failed}
use Rattle.hesc_engine.proofs.engine.run_from.Goals as goal

pub putting-init : goal.putting-init
putting-init g c = record { progress = Progress-none _ _; boundary = c.requires.boundary; known = c.requires.ahead }

pub returns-in_err-put_segment : goal.returns-in_err-put_segment
returns-in_err-put_segment g c =
    let next = c.segment_before.ensures.first c.in-Some.found refl refl (g.R.Rule.changes_from c.args.rule.now c.args.text.now) c.in-Some.ensures.found in
    failed _ _ _ c.from_residual.result c.from_residual.ensures.0 (Progress-stop c.putting.invariant.progress (segment_bytes c.segment_before.result) _ _ next c.in_err-put_segment.ensures)

pub putting-preserved-then-known-handed_from : goal.putting-preserved-then-known-handed_from
putting-preserved-then-known-handed_from g c =
    let next = c.segment_before.ensures.first c.in-Some.found refl refl (g.R.Rule.changes_from c.args.rule.now c.args.text.now) c.in-Some.ensures.found in
    let hits = c.put_hits-place.ensures in
    record {
      progress = Progress-more (Progress-more c.putting.invariant.progress (segment_bytes c.segment_before.result) _ _ next c.in_ok-put_segment.ensures) hits.taken.put _ _ hits.taken.left hits.taken.took;
      boundary = hits.boundary;
      known = c.first_change.ensures.ahead;
    }

pub putting-preserved : goal.putting-preserved
putting-preserved g c =
    let next = c.segment_before.ensures.first c.in-Some.found refl refl (g.R.Rule.changes_from c.args.rule.now c.args.text.now) c.in-Some.ensures.found in
    record {
      progress = Progress-more c.putting.invariant.progress (segment_bytes c.segment_before.result) _ _ next c.in_ok-put_segment.ensures;
      boundary = c.in-Some.ensures.found.end_boundary;
      known = c.first_change.ensures.ahead;
    }

pub returns : goal.returns
returns g c =
    let last = ap (applied c.args.text.now c.putting.place) c.in_default.ensures.none ∙ sym c.range_from.ensures.value in
    Progress-end c.putting.invariant.progress c.range_from.result.now _ c.put_some.result last c.put_some.ensures
