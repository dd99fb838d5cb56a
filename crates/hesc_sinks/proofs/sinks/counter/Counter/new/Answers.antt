use Rattle.std.proofs.Common.{ap, length, sym}
use Rattle.hesc_sinks.proofs.sinks.counter.Counter.new.Goals as goal

pub invariant_of-result : goal.invariant_of-result
invariant_of-result c = record { counts = sym (ap length c.new.ensures.0) }
