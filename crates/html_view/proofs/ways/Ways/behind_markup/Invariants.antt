use Rattle.html_view.specs.Following.{way_of, ways_of}
use Rattle.html_view.specs.Takes.{GoesOn}
use Rattle.html_view.proofs.WaySets.{AllTaken}
use Rattle.html_view.proofs.ways.Ways.behind_markup.Given as goal

abbrev pub invariant-loop-way : goal.invariant-loop-way
invariant-loop-way g l =
    AllTaken (λ way. GoesOn way l.bytes (ways_of l.next)) l.self.others.items l.way-index
    × GoesOn (way_of l.self.first) l.bytes (ways_of l.next)
