use Rattle.std.proofs.Common.{arith}
use Rattle.html_urls.proofs.SlotsTaken.{next_rest}
use Rattle.html_urls.proofs.slots.bare_slots.Goals as goal

pub parts-preserved : goal.parts-preserved
parts-preserved g c = record {
  same = next_rest _ _ _ _ _ c.parts.rest.now _ _ _ _ c.in-len1-up.len_at_least (omega arith) c.in-Ok.ensures c.parts.invariant.same;
  shorter = omega (arith, c.parts.invariant.shorter);
}
