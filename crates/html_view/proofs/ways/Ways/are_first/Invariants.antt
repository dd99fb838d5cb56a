use Rattle.std.proofs.Common.{◌≡◌}
use Rattle.html_view.specs.Ways.{first_way}
use Rattle.html_view.proofs.WaySets.{AllTaken}
use Rattle.html_view.proofs.ways.Ways.are_first.Given as goal

abbrev pub invariant-loop-way : goal.invariant-loop-way
invariant-loop-way g l = AllTaken (λ way. way ≡ first_way) l.self.others.items l.way-index
