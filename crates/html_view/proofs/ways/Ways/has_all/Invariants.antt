use Rattle.html_view.specs.Following.{ways_of}
use Rattle.html_view.specs.Takes.{Among}
use Rattle.html_view.proofs.WaySets.{AllTaken}
use Rattle.html_view.proofs.ways.Ways.has_all.Given as goal

abbrev pub invariant-loop-way : goal.invariant-loop-way
invariant-loop-way g l = AllTaken (λ way. Among way (ways_of l.self)) l.others.others.items l.way-index
