use Rattle.std.proofs.Common.{◌≡◌, ◌<◌, [], ◌∙◌, length, refl, sym, arith, append-nil}
use Rattle.std.proofs.lemmas.List.{take-append-drop, take_rest}
use Rattle.std.proofs.lemmas.Grind.{common_steps}
use Rattle.hesc_sinks.proofs.Told.{told-more, told-kept}
use Rattle.hesc_sinks.proofs.Took.{Progress-none, Progress-more, Progress-all, Progress-stop, nothing_failed}
use Rattle.hesc_sinks.proofs.sinks.writer.WriterSinkSink.put.Goals as goal

pub invariant_of-self-in-Ok : goal.invariant_of-self-in-Ok
invariant_of-self-in-Ok g c = record { told = told-more _ _ _ _ _ _ c.after_taking-self.ensures.taken c.in-Ok.ensures.bytes c.offering.self.told }

pub invariant_of-self-in-Err : goal.invariant_of-self-in-Err
invariant_of-self-in-Err g c = record { told = told-kept _ _ _ _ _ c.after_failing-self-in-Err.ensures.taken c.in-Err.ensures.bytes c.offering.self.told }

pub offering-init : goal.offering-init
offering-init g c = rw c.as_bytes-left.ensures.value (Progress-none _ _)

pub offering-preserved : goal.offering-preserved
offering-preserved g c =
    rw (take_rest c.offering.left.now c.in-Ok.count)
    (Progress-more c.offering.invariant _ _ _ (sym (take-append-drop c.in-Ok.count c.offering.left.now))
    (record {
      taken = c.after_taking-self.ensures.taken;
      failures = c.after_taking-self.ensures.failures;
      room = omega arith;
      same_reference = refl;
      same_before = refl;
    }))

pub invariant_of-self : goal.invariant_of-self
invariant_of-self g c = record { told = told-more _ _ _ _ _ _ (c.after_failing-self.ensures.taken ∙ sym (rw c.in-Ok-eq0.field-0-test (append-nil c.offering.self.log.taken))) c.in-Ok-eq0.ensures.bytes c.offering.self.told }

pub returns-in-Ok-eq0 : goal.returns-in-Ok-eq0
returns-in-Ok-eq0 g c =
    let some : 0 < length c.offering.left.now = grind (arith, common_steps) in
    Progress-stop c.offering.invariant c.offering.left.now [] _ (sym (append-nil c.offering.left.now)) (nothing_failed _ _ c.offering.left.now c.after_failing-self.ensures.taken c.after_failing-self.ensures.failures some refl refl)

pub returns-in-Err : goal.returns-in-Err
returns-in-Err g c =
    let some : 0 < length c.offering.left.now = grind (arith, common_steps) in
    Progress-stop c.offering.invariant c.offering.left.now [] _ (sym (append-nil c.offering.left.now)) (nothing_failed _ _ c.offering.left.now c.after_failing-self-in-Err.ensures.taken c.after_failing-self-in-Err.ensures.failures some refl refl)

pub returns : goal.returns
returns g c =
    let none : c.offering.left.now ≡ [] = grind (arith, common_steps) in
    Progress-all c.offering.invariant none
