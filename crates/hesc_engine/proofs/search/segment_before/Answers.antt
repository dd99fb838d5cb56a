use Rattle.std.proofs.Common.{ap, sym, ◌∙◌}
use Rattle.std.specs.Prelude.{slice_range}
use Rattle.hesc_sinks.specs.Text.{replacement_bytes}
use Rattle.hesc_engine.proofs.Segments.{applied-next}
use Rattle.hesc_engine.proofs.search.segment_before.Goals as goal

pub returns-clause-first : goal.returns-clause-first
returns-clause-first c found begins becomes changes next =
    applied-next c.args.text.now c.args.from changes found _ _ next (c.range.ensures.value ∙ ap (slice_range c.args.text.now c.args.from) (sym begins)) (ap replacement_bytes (sym becomes))
