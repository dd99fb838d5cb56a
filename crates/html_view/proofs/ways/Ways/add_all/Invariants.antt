use Rattle.html_view.specs.Following.{way_of, ways_of}
use Rattle.html_view.specs.Takes.{Among, AreAmong}
use Rattle.html_view.proofs.WaySets.{AllTaken}
use Rattle.html_view.proofs.ways.Ways.add_all.Given as goal

abbrev pub invariant-loop-way : goal.invariant-loop-way
invariant-loop-way g l =
    AllTaken (λ way. Among way (ways_of l.self)) l.others.others.items l.way-index
    × AreAmong (ways_of l.initial.self) (ways_of l.self)
    × Among (way_of l.others.first) (ways_of l.self)
