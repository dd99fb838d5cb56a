use Rattle.std.proofs.Common.{IsUtf8, length}
use Rattle.std.specs.List.{AllByRecursion}
use Rattle.html_template.proofs.fill.total_length.Given as goal

abbrev pub invariant-texts : goal.invariant-texts
invariant-texts g l = AllByRecursion IsUtf8 (g.T.Texts.list l.left) → AllByRecursion IsUtf8 (g.T.Texts.list l.texts)

abbrev pub decreases-texts : goal.decreases-texts
decreases-texts g l = length (g.T.Texts.list l.left)
