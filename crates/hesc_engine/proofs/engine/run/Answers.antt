use Rattle.std.proofs.lemmas.Str.{IsCharBoundary-start}
use Rattle.hesc_engine.proofs.engine.run.Goals as goal

pub run_from-requires-clause-boundary : goal.run_from-requires-clause-boundary
run_from-requires-clause-boundary g c = IsCharBoundary-start _ c.utf8.text
