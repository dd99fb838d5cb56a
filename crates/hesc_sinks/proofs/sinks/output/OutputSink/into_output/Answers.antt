use Rattle.std.proofs.lemmas.Str.{IsUtf8-had}
use Rattle.hesc_sinks.proofs.sinks.output.OutputSink.into_output.Goals as goal

pub returns-clause-utf8 : goal.returns-clause-utf8
returns-clause-utf8 g c = IsUtf8-had _ c.args.self.utf8
