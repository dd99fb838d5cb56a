use Rattle.std.proofs.Common.{ap, refl}
use Rattle.hesc_sinks.proofs.Stores.{Holds-kept, filled_after}
use Rattle.hesc_sinks.specs.Took.{Setting}
use Rattle.hesc_sinks.proofs.sinks.store.StoreSink.put_small.Goals as goal

pub invariant_of-self : goal.invariant_of-self
invariant_of-self g c =
    let self = c.args.self.now in
    let held = Holds-kept _ _ _ _ _ _ _ (record { within = self.within; holds = self.holds; utf8 = self.utf8 }) (filled_after _ _ _ self.within c.fill.ensures.kept) (ap (λ (setting : Setting). setting.start) c.fill.ensures.same) refl in
    record { within = held.within; holds = held.holds; utf8 = held.utf8 }
