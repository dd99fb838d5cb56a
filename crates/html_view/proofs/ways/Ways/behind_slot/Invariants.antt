use Rattle.html_view.specs.Following.{way_of, ways_of}
use Rattle.html_view.specs.Takes.{GoesPast}
use Rattle.html_view.specs.Nodes.{Placed}
use Rattle.html_view.proofs.WaySets.{AllTaken, IsFound}
use Rattle.html_view.proofs.ways.Ways.behind_slot.Given as goal

abbrev pub invariant-loop-way : goal.invariant-loop-way
invariant-loop-way g l =
    (slot : Placed) → IsFound l.slot slot
    → AllTaken (λ way. GoesPast way slot (ways_of l.ways)) l.self.others.items l.way-index × GoesPast (way_of l.self.first) slot (ways_of l.ways)
