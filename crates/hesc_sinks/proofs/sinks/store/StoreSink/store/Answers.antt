use Rattle.std.proofs.Common.{ap}
use Rattle.hesc_sinks.proofs.Stores.{Holds-more, read_after, took_stored}
use Rattle.hesc_sinks.specs.Took.{Setting}
use Rattle.hesc_sinks.proofs.sinks.store.StoreSink.store.Goals as goal

pub invariant_of-self : goal.invariant_of-self
invariant_of-self g c =
    let self = c.args.self.now in let stored = c.store-self.ensures.stored in
    let held = Holds-more _ _ _ _ _ _ _ _ _ (record { within = self.within; holds = self.holds; utf8 = self.utf8 }) stored.before stored.after (ap (λ (setting : Setting). setting.start) c.store-self.ensures.same) (read_after _ _ _ _ _ _ _ _ stored self.within c.as_slice.ensures c.after_taking-self.ensures.taken) c.store-self.ensures.utf8 in
    record { within = held.within; holds = held.holds; utf8 = held.utf8 }

pub returns : goal.returns
returns g c =
    let self = c.args.self.now in let stored = c.store-self.ensures.stored in
    took_stored _ _ _ _ _ _ _ _ _ c.store-self.ensures.same (read_after _ _ _ _ _ _ _ _ stored self.within c.as_slice.ensures c.after_taking-self.ensures.taken) c.after_taking-self.ensures.failures stored.after
