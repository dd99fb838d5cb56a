use Rattle.std.proofs.Common.{◌≤◌, ◌+◌, List, length, subst, arith}
use Rattle.html_view.specs.Following.{ways_of}
use Rattle.html_view.specs.Takes.{Among}
use Rattle.html_view.proofs.WaySets.{taken_all, taken_first, taken_more}
use Rattle.html_view.proofs.ways.Ways.has_all.Goals as goal

pub loop-way-preserved : goal.loop-way-preserved
loop-way-preserved g c =
    taken_more (λ way. Among way (ways_of c.args.self.now)) c.deref-way-items.result.now c.args.others.now.others.items
    c.loop-way.way-index (c.loop-way.way-index + 1) c.way-item.result c.deref-way-items.ensures.value (omega arith) (omega arith) c.way-item.is
    c.loop-way.invariant (c.has-in-loop-way.ensures c.if-not-has-2.false)

pub returns : goal.returns
returns g c = λ so.
    taken_first (λ way. Among way (ways_of c.args.self.now)) c.args.others.now.first c.args.others.now.others.items (c.has.ensures c.if-not-has.false)
    (taken_all (λ way. Among way (ways_of c.args.self.now)) c.args.others.now.others.items c.loop-way.way-index
    (subst (λ (w : List _). length w ≤ c.loop-way.way-index) c.deref-way-items.ensures.value c.loop-way-test.false) c.loop-way.invariant)
