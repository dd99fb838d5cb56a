use Rattle.std.proofs.Common.{◌≡◌, ◌≤◌, ◌+◌, List, length, subst, arith}
use Rattle.html_view.specs.Ways.{first_way}
use Rattle.html_view.proofs.WaySets.{taken_all, taken_first, taken_more}
use Rattle.html_view.proofs.ways.Ways.are_first.Goals as goal

pub loop-way-preserved : goal.loop-way-preserved
loop-way-preserved g c =
    taken_more (λ way. way ≡ first_way) c.deref-way-items.result.now c.args.self.now.others.items c.loop-way.way-index (c.loop-way.way-index + 1)
    c.way-item.result c.deref-way-items.ensures.value (omega arith) (omega arith) c.way-item.is c.loop-way.invariant
    (c.is_first-in-loop-way.ensures c.if-not-is_first-2.false)

pub returns : goal.returns
returns g c = λ so.
    taken_first (λ way. way ≡ first_way) c.args.self.now.first c.args.self.now.others.items (c.is_first.ensures c.if-not-is_first.false)
    (taken_all (λ way. way ≡ first_way) c.args.self.now.others.items c.loop-way.way-index
    (subst (λ (w : List _). length w ≤ c.loop-way.way-index) c.deref-way-items.ensures.value c.loop-way-test.false) c.loop-way.invariant)
