use Rattle.std.proofs.Common.{◌≡◌, map, take}
use Rattle.html_view.specs.Following.{way_of}
use Rattle.html_view.proofs.ways.entered.Given as goal

abbrev pub invariant-loop-way : goal.invariant-loop-way
invariant-loop-way g l = map way_of l.entered.items ≡ map way_of (take l.way-index l.ways.items)
