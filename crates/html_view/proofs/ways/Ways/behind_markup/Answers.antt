use Rattle.std.proofs.Common.{◌≤◌, ◌+◌, List, length, subst, arith}
use Rattle.html_view.specs.Following.{way_of, ways_of}
use Rattle.html_view.specs.Takes.{GoesOn}
use Rattle.html_view.proofs.WaySets.{goes_on, goes_wider, only_among, taken_all, taken_first, taken_more, taken_none}
use Rattle.html_view.proofs.ways.Ways.behind_markup.Goals as goal

pub loop-way-init : goal.loop-way-init
loop-way-init g c = (
  taken_none (λ way. GoesOn way c.args.bytes.now (ways_of c.only-next.result)) c.args.self.now.others.items,
  goes_on (way_of c.args.self.now.first) (way_of c.in_ok-first.first) (way_of c.move_on.new.way) c.args.bytes.now (ways_of c.only-next.result)
      c.in_ok-first.ensures c.in_ok-move_on.ensures (only_among (ways_of c.only-next.result) (way_of c.move_on.new.way) c.only-next.ensures),
)

pub loop-way-preserved : goal.loop-way-preserved
loop-way-preserved g c = (
  taken_more (λ way. GoesOn way c.args.bytes.now (ways_of c.add.new.self)) c.deref-way-items.result.now c.args.self.now.others.items
      c.loop-way.way-index (c.loop-way.way-index + 1) c.way-item.result c.deref-way-items.ensures.value (omega arith) (omega arith) c.way-item.is
      (λ way among. goes_wider way c.args.bytes.now (ways_of c.loop-way.next) (ways_of c.add.new.self) c.in_ok-add.ensures.kept (c.loop-way.invariant.0 way among))
      (goes_on (way_of c.way-item.result) (way_of c.in_ok-moved.moved) (way_of c.move_on-in-loop-way.new.way) c.args.bytes.now (ways_of c.add.new.self)
      c.in_ok-moved.ensures c.in_ok-move_on-2.ensures c.in_ok-add.ensures.added),
  goes_wider (way_of c.args.self.now.first) c.args.bytes.now (ways_of c.loop-way.next) (ways_of c.add.new.self) c.in_ok-add.ensures.kept c.loop-way.invariant.1,
)

pub returns : goal.returns
returns g c =
    taken_first (λ way. GoesOn way c.args.bytes.now (ways_of c.loop-way.next)) c.args.self.now.first c.args.self.now.others.items c.loop-way.invariant.1
    (taken_all (λ way. GoesOn way c.args.bytes.now (ways_of c.loop-way.next)) c.args.self.now.others.items c.loop-way.way-index
    (subst (λ (w : List _). length w ≤ c.loop-way.way-index) c.deref-way-items.ensures.value c.loop-way-test.false) c.loop-way.invariant.0)
