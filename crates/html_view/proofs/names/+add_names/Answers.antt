use Rattle.std.proofs.Common.{◌∙◌, ◌++◌, ap, sym, map, arith}
use Rattle.html_view.specs.AskedNames.{Fragment, Slot, asked_name, names_in, opened_names}
use Rattle.html_view.specs.Kept.{named_of, nodes_of, placed_node}
use Rattle.html_view.specs.declared.placed.PlacedNode.{PlacedNode}
use Rattle.html_view.proofs.AskedNames.{more_added, one_added, section_added}
use Rattle.html_view.proofs.Followed.{placed_fragment, placed_slot}
use Rattle.html_view.proofs.names.+add_names.Goals as goal

pub add_names-loop-node-preserved : goal.add_names-loop-node-preserved
add_names-loop-node-preserved g t c =
    more_added c.deref-node-items.result.now c.args.nodes.now.items c.loop-node.node-index c.node-item.result _ _ _ c.deref-node-items.ensures.value
    (omega arith) c.node-item.is c.loop-node.invariant c.in_ok-add_names_of.ensures

pub add_names_of-returns-in-Slot : goal.add_names_of-returns-in-Slot
add_names_of-returns-in-Slot g t c =
    one_added c.add.result _ _ _ (Slot (named_of c.in-Slot.slot.asked).name) (placed_node c.args.node.now) c.add.ensures (ap Slot (sym c.in-Slot.slot.asked.cut))
    (λ rest. ap (λ (n : PlacedNode _). names_in (placed_node n rest)) c.in-Slot.is ∙ ap names_in (placed_slot c.in-Slot.slot rest))

pub add_names_of-returns-in-Fragment : goal.add_names_of-returns-in-Fragment
add_names_of-returns-in-Fragment g t c =
    one_added c.add-in-Fragment.result _ _ _ (Fragment (named_of c.in-Fragment.slot).name) (placed_node c.args.node.now) c.add-in-Fragment.ensures (ap Fragment (sym c.in-Fragment.slot.cut))
    (λ rest. ap (λ (n : PlacedNode _). names_in (placed_node n rest)) c.in-Fragment.is ∙ ap names_in (placed_fragment c.in-Fragment.slot rest))

pub add_names_of-returns-in_ok-add_opened-in-Section : goal.add_names_of-returns-in_ok-add_opened-in-Section
add_names_of-returns-in_ok-add_opened-in-Section g t c =
    section_added c.add_names.result _ _ _ c.args.node.now c.in-Section.opened c.in-Section.body c.in-Section.otherwise c.in-Section.is
    (c.in_ok-add_opened-in-Section.ensures
    ∙ ap (λ n. map asked_name c.args.names.now.items ++ opened_names c.in-Section.opened.times n (names_in (nodes_of c.in-Section.body.items))) (sym c.in-Section.opened.tag.cut))
    c.add_names.ensures
