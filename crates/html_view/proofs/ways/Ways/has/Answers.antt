use Rattle.std.proofs.Common.{rules, inr, arith}
use Rattle.html_view.proofs.WaySets.{among_at, among_same}
use Rattle.html_view.proofs.ways.Ways.has.Goals as goal

pub returns-then-is_same-2 : goal.returns-then-is_same-2
returns-then-is_same-2 g c = λ so.
    inr (among_same _ _ _ (c.is_same-in-loop-other.ensures c.if-is_same-2.true)
    (among_at c.deref-other-items.result.now c.args.self.now.others.items c.loop-other.other-index c.other-item.result (search rules) (omega arith) c.other-item.is))
