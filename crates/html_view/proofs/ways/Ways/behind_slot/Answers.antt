use Rattle.std.proofs.Common.{◌≤◌, ◌∙◌, ◌+◌, List, length, subst, sym, arith}
use Rattle.html_view.specs.Following.{way_of, ways_of}
use Rattle.html_view.specs.Takes.{GoesPast}
use Rattle.html_view.proofs.WaySets.{goes_past, only_among, past_wider, taken_all, taken_first, taken_more, taken_none}
use Rattle.html_view.proofs.ways.Ways.behind_slot.Goals as goal

pub loop-way-init : goal.loop-way-init
loop-way-init g c = λ slot found. (
  taken_none (λ way. GoesPast way slot (ways_of c.only-ways.result)) c.args.self.now.others.items,
  goes_past c.args.next.now (way_of c.args.self.now.first) (way_of c.in_ok-first.first) (way_of c.move_past.new.way) c.in_ok-slot.slot slot (ways_of c.only-ways.result)
      c.in_ok-first.ensures c.in_ok-slot.ensures found.0 found.1
      (only_among (ways_of c.only-ways.result) (way_of c.move_past.new.way) c.only-ways.ensures),
)

pub loop-way-preserved : goal.loop-way-preserved
loop-way-preserved g c = λ slot found. (
  taken_more (λ way. GoesPast way slot (ways_of c.add.new.self)) c.deref-way-items.result.now c.args.self.now.others.items
      c.loop-way.way-index (c.loop-way.way-index + 1) c.way-item.result c.deref-way-items.ensures.value (omega arith) (omega arith) c.way-item.is
      (λ way among. past_wider way slot (ways_of c.loop-way.ways) (ways_of c.add.new.self) c.in_ok-add.ensures.kept ((c.loop-way.invariant slot found).0 way among))
      (goes_past c.args.next.now (way_of c.way-item.result) (way_of c.in_ok-moved.moved) (way_of c.move_past-in-loop-way.new.way) c.in_ok-other.other slot (ways_of c.add.new.self)
      c.in_ok-moved.ensures c.in_ok-other.ensures
      (sym (c.is_same_slot.ensures.place c.if-not-is_same_slot.false) ∙ found.0) (sym (c.is_same_slot.ensures.kind c.if-not-is_same_slot.false) ∙ found.1)
      c.in_ok-add.ensures.added),
  past_wider (way_of c.args.self.now.first) slot (ways_of c.loop-way.ways) (ways_of c.add.new.self) c.in_ok-add.ensures.kept (c.loop-way.invariant slot found).1,
)

pub returns : goal.returns
returns g c = λ slot place kind.
    taken_first (λ way. GoesPast way slot (ways_of c.loop-way.ways)) c.args.self.now.first c.args.self.now.others.items
    (c.loop-way.invariant slot (place, kind)).1
    (taken_all (λ way. GoesPast way slot (ways_of c.loop-way.ways)) c.args.self.now.others.items c.loop-way.way-index
    (subst (λ (w : List _). length w ≤ c.loop-way.way-index) c.deref-way-items.ensures.value c.loop-way-test.false)
    (c.loop-way.invariant slot (place, kind)).0)
