use Rattle.html_view.specs.Ways.{MayEnd}
use Rattle.html_view.proofs.WaySets.{AllTaken}
use Rattle.html_view.proofs.ways.Ways.may_end.Given as goal

abbrev pub invariant-loop-way : goal.invariant-loop-way
invariant-loop-way g l = AllTaken MayEnd l.self.others.items l.way-index
