use Rattle.std.proofs.Common.{◌≡◌, ◌≤◌, ◌-◌, length, map}
use Rattle.html_template.specs.FillFaults.{fill_fault, fill_from}
use Rattle.html_template.specs.Templates.{chunk_of}
use Rattle.html_template.proofs.fill.check_each.Given as goal

abbrev pub invariant-pieces : goal.invariant-pieces
invariant-pieces g l = record {
  first : fill_from (length (g.T.Texts.list l.texts) - length (g.T.Texts.list l.left)) (map chunk_of l.rest) (g.T.Texts.list l.left) ≡ fill_fault (map chunk_of l.pieces) (g.T.Texts.list l.texts);
  shorter : length (g.T.Texts.list l.left) ≤ length (g.T.Texts.list l.texts);
}

abbrev pub decreases-pieces : goal.decreases-pieces
decreases-pieces g l = length l.rest
