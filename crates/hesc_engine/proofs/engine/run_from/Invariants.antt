use Rattle.std.proofs.Common.{◌-◌, length}
use Rattle.std.specs.Str.{IsCharBoundary}
use Rattle.hesc_specs.specs.Text.Changes.{applied}
use Rattle.hesc_sinks.proofs.Took.{Progress}
use Rattle.hesc_engine.specs.Ahead.{IsAhead}
use Rattle.hesc_engine.proofs.engine.run_from.Given as goal

abbrev pub invariant-putting : goal.invariant-putting
invariant-putting g l = record {
  progress : Progress (g.S.Sink.seen l.initial.sink) (g.S.Sink.seen l.sink) (applied l.text l.place (g.R.Rule.changes_from l.rule l.text l.place)) (applied l.text l.from (g.R.Rule.changes_from l.rule l.text l.from));
  boundary : IsCharBoundary l.text l.place;
  known : IsAhead (g.R.Rule.is_sought l.rule) l.text l.known;
}

abbrev pub decreases-putting : goal.decreases-putting
decreases-putting g l = length l.text - l.place
