use Rattle.std.proofs.Common.{ap, arith, length, length-append}
use Rattle.hesc_sinks.proofs.sinks.counter.CounterSink.put.Goals as goal

pub invariant_of-self : goal.invariant_of-self
invariant_of-self c = record {
  counts = omega (arith, ap length c.after_taking-self.ensures.taken, length-append c.args.self.now.log.taken c.as_bytes.result.now, ap length c.as_bytes.ensures.value, c.in-Some.ensures, c.args.self.now.counts);
}
