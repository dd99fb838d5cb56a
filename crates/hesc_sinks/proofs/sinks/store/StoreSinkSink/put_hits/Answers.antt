use Rattle.std.proofs.Common.{ap}
use Rattle.hesc_sinks.proofs.Stores.{Holds-more, read_after, took_stored}
use Rattle.hesc_sinks.specs.Took.{Setting}
use Rattle.hesc_sinks.proofs.sinks.store.StoreSinkSink.put_hits.Goals as goal

pub invariant_of-self : goal.invariant_of-self
invariant_of-self g c =
    let self = c.args.self.now in let stored = c.store_hits-end.ensures.stored in
    let held = Holds-more _ _ _ _ _ _ _ _ _ (record { within = self.within; holds = self.holds; utf8 = self.utf8 }) stored.stored.before stored.stored.after (ap (λ (setting : Setting). setting.start) c.store_hits-end.ensures.same) (read_after _ _ _ _ _ _ _ _ stored.stored self.within c.as_slice.ensures c.after_taking-self.ensures.taken) stored.utf8 in
    record { within = held.within; holds = held.holds; utf8 = held.utf8 }

pub returns-clause-taken : goal.returns-clause-taken
returns-clause-taken g c =
    let self = c.args.self.now in let stored = c.store_hits-end.ensures.stored in
    record {
      put = stored.put;
      took = took_stored _ _ _ _ _ _ _ _ _ c.store_hits-end.ensures.same (read_after _ _ _ _ _ _ _ _ stored.stored self.within c.as_slice.ensures c.after_taking-self.ensures.taken) c.after_taking-self.ensures.failures stored.stored.after;
      image = stored.image;
    }
