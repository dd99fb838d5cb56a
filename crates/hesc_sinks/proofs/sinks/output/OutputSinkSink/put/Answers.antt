use Rattle.std.proofs.Common.{append_assoc, refl}
use Rattle.hesc_sinks.proofs.TakenText.{text_kept, text_more}
use Rattle.hesc_sinks.proofs.sinks.output.OutputSinkSink.put.Goals as goal

pub invariant_of-self : goal.invariant_of-self
invariant_of-self g c =
    let self = c.args.self.now in
    record {
      holds = rw (c.in-Ok.ensures.appended, self.holds, c.after_taking-self.ensures.taken, c.as_bytes.ensures.value) (append_assoc (g.O.Output.bytes self.start.value) self.log.taken c.args.piece.now);
      utf8 = text_more _ _ _ c.after_taking-self.ensures.taken self.utf8 c.as_bytes.ensures.utf8;
    }

pub invariant_of-self-in-Err : goal.invariant_of-self-in-Err
invariant_of-self-in-Err g c =
    let self = c.args.self.now in
    record {
      holds = rw (c.in-Err.ensures.appended, self.holds, c.after_failing-self.ensures.taken) refl;
      utf8 = text_kept _ _ c.after_failing-self.ensures.taken self.utf8;
    }
