use Rattle.std.proofs.Common.{refl, subst, ◌∙◌, ◌+◌, ◌≤◌, List, length, arith}
use Rattle.std.proofs.lemmas.List.{take_all}
use Rattle.hesc_views.proofs.Checked.{lines_more, section_appended, vec_has_none}
use Rattle.hesc_views.proofs.check.+append.Goals as goal

pub append_node-returns-in_ok-append_tag-in-Section :
    goal.append_node-returns-in_ok-append_tag-in-Section
append_node-returns-in_ok-append_tag-in-Section g t c =
    section_appended c.in-Section.opened c.in-Section.body c.in-Section.otherwise c.args.node.now _ _ _ _ _ _ _ c.in-Section.is
    (c.body_sign-sign.ensures ∙ rw (c.is_empty.ensures, c.is_empty-in-Section.ensures, vec_has_none c.in-Section.body, vec_has_none c.in-Section.otherwise) refl)
    (c.otherwise_sign.ensures ∙ rw (c.is_empty-in-Section-2.ensures, vec_has_none c.in-Section.otherwise) refl)
    c.in_ok-append_body-in-Section.ensures c.in_ok-append_tag-in-Section.ensures c.append_nodes.ensures

pub append_nodes-loop-node-preserved : goal.append_nodes-loop-node-preserved
append_nodes-loop-node-preserved g t c =
    lines_more c.deref-node-items.result.now c.args.nodes.now.items c.loop-node.node-index (c.loop-node.node-index + 1) _ _ _ _
    c.deref-node-items.ensures.value (omega arith) (omega arith) c.node-item.is c.loop-node.invariant c.in_ok-append_node.ensures

pub append_nodes-returns : goal.append_nodes-returns
append_nodes-returns g t c =
    let all = subst (λ (n : List _). length n ≤ c.loop-node.node-index) c.deref-node-items.ensures.value c.loop-node-test.false in
    rw (take_all c.loop-node.node-index c.args.nodes.now.items all) at c.loop-node.invariant
