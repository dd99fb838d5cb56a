use Rattle.std.proofs.lemmas.Str.{IsUtf8-append, IsUtf8-had}
use Rattle.hesc_sinks.proofs.sinks.stores.BothStoring.store_at.Goals as goal

pub returns-clause-utf8 : goal.returns-clause-utf8
returns-clause-utf8 g c = IsUtf8-append _ _ (rw c.as_bytes-kept.ensures.value at c.as_bytes-kept.ensures.utf8) (IsUtf8-had _ c.args.self.now.text.utf8)
