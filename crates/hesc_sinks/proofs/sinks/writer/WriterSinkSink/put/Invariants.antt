use Rattle.std.proofs.Common.{length}
use Rattle.hesc_sinks.specs.Sinks.{writer_sink_seen}
use Rattle.hesc_sinks.proofs.Took.{Progress}
use Rattle.hesc_sinks.proofs.sinks.writer.WriterSinkSink.put.Given as goal

abbrev pub invariant-offering : goal.invariant-offering
invariant-offering g l = Progress (writer_sink_seen l.initial.self) (writer_sink_seen l.self) l.left l.piece

abbrev pub decreases-offering : goal.decreases-offering
decreases-offering g l = length l.left
