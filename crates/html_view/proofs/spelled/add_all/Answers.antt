use Rattle.std.proofs.Common.{◌≡◌, ◌≤◌, ◌-◌, ◌∙◌, List, [], ◌∷◌, get_or, length, take, drop, ap, arith}
use Rattle.std.proofs.lemmas.List.{take_all}
use Rattle.html_view.specs.Attributes.{of_row, of_rows}
use Rattle.html_view.specs.Kept.{asked_nodes}
use Rattle.html_view.specs.Nodes.{Asked, Nodes}
use Rattle.html_view.specs.declared.attributes.Attribute.{Attribute}
use Rattle.html_view.specs.declared.faults.Position.{Position}
use Rattle.html_view.specs.declared.node.Times.{Times}
use Rattle.html_view.proofs.spelled.add_all.Goals as goal

-- the first row, and then the others
rows_cut : (times : Times) (position : Position) (rows : List Attribute) (other : Attribute) (rest : Nodes Asked) → 1 ≤ length rows →
    of_row times position (get_or rows 0 other) (of_rows times position (take (length rows - 1) (drop 1 rows)) rest) ≡ of_rows times position rows rest
rows_cut times position [] other rest some = absurd (omega arith)
rows_cut times position (row ∷ rows) other rest some =
    ap (λ r. of_row times position row (of_rows times position r rest)) (take_all (length (row ∷ rows) - 1) rows (omega arith))

pub rows-preserved : goal.rows-preserved
rows-preserved g c = λ rest.
    c.in_ok-add.ensures.nodes _
    ∙ ap (asked_nodes c.rows.nodes.items)
    (c.in_ok-node.ensures _ ∙ rows_cut c.args.times c.args.position c.rows.rest.now _ rest c.in-len1-up.len_at_least)
    ∙ c.rows.invariant rest
