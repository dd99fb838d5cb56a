use Rattle.std.proofs.Common.{refl, arith}
use Rattle.std.proofs.lemmas.List.{take_rest}
use Rattle.std.proofs.lemmas.Str.{IsUtf8-had}
use Rattle.hesc_sinks.proofs.Hits.{storing_more}
use Rattle.hesc_sinks.proofs.sinks.stores.store_last_hits.Goals as goal

pub ending-preserved : goal.ending-preserved
ending-preserved c =
    let same = c.as_bytes-bytes.ensures.value in
    storing_more _ _ _ _ _ _ _ _ _ _ _ _ _ _ c.ending.invariant c.utf8.text (omega arith) refl (omega arith)
    (rw same at c.in-Some.ensures.ascii)
    (rw same at c.in-Some.ensures.some)
    (rw same at c.in-Some.ensures.text)
    (IsUtf8-had _ c.in-Some.small.utf8)
    (rw (take_rest c.as_bytes-bytes.result.now c.ending.reached, same) at c.store_both-end.ensures)
