use Rattle.std.proofs.Common.{◌≡◌, length}
use Rattle.html_view.specs.Data as data_of
use Rattle.html_view.specs.Values.{stack_of}
use Rattle.html_view.proofs.data.find.Given as goal

abbrev pub invariant-values : goal.invariant-values
invariant-values l = data_of.around l.word (stack_of l.around) ≡ data_of.around l.word (stack_of l.here)

abbrev pub decreases-values : goal.decreases-values
decreases-values l = length (stack_of l.here)
