use Rattle.std.proofs.Common.{◌≡◌, length}
use Rattle.html_view.specs.Attributes.{of_rows}
use Rattle.html_view.specs.Kept.{asked_nodes}
use Rattle.html_view.specs.Nodes as spec
use Rattle.html_view.proofs.spelled.add_all.Given as goal

abbrev pub invariant-rows : goal.invariant-rows
invariant-rows g l =
    (rest : spec.Nodes spec.Asked) → asked_nodes l.nodes.items (of_rows l.times l.position l.rest rest)
    ≡ asked_nodes l.initial.nodes.items (of_rows l.times l.position l.rows rest)

abbrev pub decreases-rows : goal.decreases-rows
decreases-rows g l = length l.rest
