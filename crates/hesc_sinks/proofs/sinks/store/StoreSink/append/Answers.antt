use Rattle.std.proofs.Common.{◌++◌, ◌∙◌, List, ap, ℕ}
use Rattle.hesc_sinks.proofs.Stores.{Holds-kept, Holds-more}
use Rattle.hesc_sinks.specs.Took.{Setting}
use Rattle.hesc_sinks.proofs.sinks.store.StoreSink.append.Goals as goal

pub invariant_of-self : goal.invariant_of-self
invariant_of-self g c =
    let self = c.args.self.now in
    let held = Holds-more _ _ _ _ _ _ _ _ _ (record { within = self.within; holds = self.holds; utf8 = self.utf8 }) c.in-Ok.ensures.appended c.in-Ok.ensures.after (ap (λ (setting : Setting). setting.start) c.append.ensures.same) (c.after_taking-self.ensures.taken ∙ ap (λ (l : List ℕ). self.log.taken ++ l) c.as_bytes.ensures.value) c.utf8.piece in
    record { within = held.within; holds = held.holds; utf8 = held.utf8 }

pub invariant_of-self-in-Err : goal.invariant_of-self-in-Err
invariant_of-self-in-Err g c =
    let self = c.args.self.now in
    let held = Holds-kept _ _ _ _ _ _ _ (record { within = self.within; holds = self.holds; utf8 = self.utf8 }) c.in-Err.ensures.kept (ap (λ (setting : Setting). setting.start) c.append.ensures.same) c.after_failing-self.ensures.taken in
    record { within = held.within; holds = held.holds; utf8 = held.utf8 }
