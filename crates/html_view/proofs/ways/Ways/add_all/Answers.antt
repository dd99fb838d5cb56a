use Rattle.std.proofs.Common.{◌≤◌, ◌+◌, List, length, subst, arith}
use Rattle.html_view.specs.Following.{way_of, ways_of}
use Rattle.html_view.specs.Takes.{Among}
use Rattle.html_view.proofs.WaySets.{taken_all, taken_first, taken_more, taken_none}
use Rattle.html_view.proofs.ways.Ways.add_all.Goals as goal

pub loop-way-init : goal.loop-way-init
loop-way-init g c = (
  taken_none (λ way. Among way (ways_of c.add_copy.new.self)) c.args.others.now.others.items,
  λ way among. among,
  c.in_ok-add_copy.ensures.added,
)

pub loop-way-preserved : goal.loop-way-preserved
loop-way-preserved g c = (
  taken_more (λ way. Among way (ways_of c.add_copy-in-loop-way.new.self)) c.deref-way-items.result.now c.args.others.now.others.items
      c.loop-way.way-index (c.loop-way.way-index + 1) c.way-item.result c.deref-way-items.ensures.value (omega arith) (omega arith) c.way-item.is
      (λ way among. c.in_ok-add_copy-2.ensures.kept way (c.loop-way.invariant.0 way among))
      c.in_ok-add_copy-2.ensures.added,
  λ way among. c.in_ok-add_copy-2.ensures.kept way (c.loop-way.invariant.1 way among),
  c.in_ok-add_copy-2.ensures.kept (way_of c.args.others.now.first) c.loop-way.invariant.2,
)

pub returns-clause-added : goal.returns-clause-added
returns-clause-added g c =
    taken_first (λ way. Among way (ways_of c.loop-way.self)) c.args.others.now.first c.args.others.now.others.items c.loop-way.invariant.2
    (taken_all (λ way. Among way (ways_of c.loop-way.self)) c.args.others.now.others.items c.loop-way.way-index
    (subst (λ (w : List _). length w ≤ c.loop-way.way-index) c.deref-way-items.ensures.value c.loop-way-test.false) c.loop-way.invariant.0)

pub returns-clause-kept : goal.returns-clause-kept
returns-clause-kept g c = λ way among. c.loop-way.invariant.1 way (c.in_ok-add_copy.ensures.kept way among)
