use Rattle.std.proofs.Common.{refl, sym, ◌+◌, ◌∙◌, ◌∷◌, Ok, Err, subst, arith, drop, option_map}
use Rattle.html_view.specs.Attributes.{refused_for}
use Rattle.html_view.specs.Data.{item_stacks, stacks}
use Rattle.html_view.specs.Rendered.{unrolled, unrolled_each}
use Rattle.html_view.specs.Kept.{nodes_of, opened_of, placed_node}
use Rattle.html_view.specs.Values.{datum_of, items_in, stack_of}
use Rattle.html_view.specs.declared.unroll.Stop.TheVariants.{Failed}
use Rattle.html_view.proofs.Putting.{IsSoFar, each_told, markup_begun, markup_put, never_told, none_yet, one_more, pass_more, stands_told, stop_behind, stop_in_pass}
use Rattle.html_view.proofs.Sections.{before_node, fragment_node, markup_node, nodes_fill, section_made, section_node, slot_node}
use Rattle.html_view.proofs.unroll.+put.Goals as goal

pub put_each-items-init : goal.put_each-items-init
put_each-items-init g t c = record { so_far = none_yet _ _; reference = refl; before = refl }

pub put_each-items-preserved : goal.put_each-items-preserved
put_each-items-preserved g t c =
    let stack = stack_of c.args.around.now in
    record {
      so_far = pass_more (unrolled_each (λ inner. unrolled (nodes_of c.args.body.now.items) inner) (item_stacks (items_in c.args.items) stack))
          (unrolled (nodes_of c.args.body.now.items) (datum_of c.in-Some.item ∷ stack))
          (unrolled_each (λ inner. unrolled (nodes_of c.args.body.now.items) inner) (item_stacks (items_in c.in-Some.others) stack)) _ _ _
          (subst (λ i. IsSoFar (unrolled_each (λ inner. unrolled (nodes_of c.args.body.now.items) inner) (item_stacks (items_in c.args.items) stack))
          (unrolled_each (λ inner. unrolled (nodes_of c.args.body.now.items) inner) (item_stacks i stack)) (g.S.Sink.seen c.args.sink.now).taken (g.S.Sink.seen c.items.sink).taken)
          c.in-Some.ensures.some c.items.invariant.so_far)
          c.in-Ok.ensures.puts;
      reference = c.in-Ok.ensures.same_reference ∙ c.items.invariant.reference;
      before = c.in-Ok.ensures.same_before ∙ c.items.invariant.before;
    }

pub put_each-returns-in-Err-clause-puts : goal.put_each-returns-in-Err-clause-puts
put_each-returns-in-Err-clause-puts g t c =
    let stack = stack_of c.args.around.now in
    stop_in_pass (unrolled_each (λ inner. unrolled (nodes_of c.args.body.now.items) inner) (item_stacks (items_in c.args.items) stack))
    (unrolled (nodes_of c.args.body.now.items) (datum_of c.in-Some.item ∷ stack))
    (unrolled_each (λ inner. unrolled (nodes_of c.args.body.now.items) inner) (item_stacks (items_in c.in-Some.others) stack)) (g.S.Sink.seen c.args.sink.now).taken
    (g.S.Sink.seen c.items.sink).taken (g.S.Sink.seen c.put_nodes.new.sink).taken c.put_nodes.new.refusal c.in-Err.stop
    (nodes_fill (nodes_of c.args.body.now.items) (datum_of c.in-Some.item ∷ stack))
    (subst (λ i. IsSoFar (unrolled_each (λ inner. unrolled (nodes_of c.args.body.now.items) inner) (item_stacks (items_in c.args.items) stack))
    (unrolled_each (λ inner. unrolled (nodes_of c.args.body.now.items) inner) (item_stacks i stack)) (g.S.Sink.seen c.args.sink.now).taken (g.S.Sink.seen c.items.sink).taken)
    c.in-Some.ensures.some c.items.invariant.so_far)
    c.in-Err.ensures.puts

pub put_node-returns-in-Ok-clause-puts : goal.put_node-returns-in-Ok-clause-puts
put_node-returns-in-Ok-clause-puts g t c =
    markup_node {F = g.row.S-Fault.Denot} c.args.node.now c.in-Markup.markup (stack_of c.args.around.now) (g.S.Sink.seen c.args.sink.now).taken
    (g.S.Sink.seen c.put_markup.new.sink).taken c.args.refusal.now (Ok tt) c.in-Markup.is
    (markup_put c.in-Markup.markup.text.now (stack_of c.args.around.now) (g.S.Sink.seen c.args.sink.now).taken (g.S.Sink.seen c.put_markup.new.sink).taken c.in-Ok.ensures.taken)

pub put_node-returns-in-Err-clause-puts : goal.put_node-returns-in-Err-clause-puts
put_node-returns-in-Err-clause-puts g t c =
    markup_node {F = g.row.S-Fault.Denot} c.args.node.now c.in-Markup.markup (stack_of c.args.around.now) (g.S.Sink.seen c.args.sink.now).taken
    (g.S.Sink.seen c.put_markup.new.sink).taken c.args.refusal.now (Err (Failed c.in-Err.fault)) c.in-Markup.is
    (markup_begun c.in-Markup.markup.text.now (stack_of c.args.around.now) (g.S.Sink.seen c.args.sink.now).taken (g.S.Sink.seen c.put_markup.new.sink).taken c.in-Err.ensures.taken)

pub put_node-returns-in-Slot-clause-puts : goal.put_node-returns-in-Slot-clause-puts
put_node-returns-in-Slot-clause-puts g t c =
    slot_node c.args.node.now c.in-Slot.slot (stack_of c.args.around.now) (g.S.Sink.seen c.args.sink.now).taken (g.S.Sink.seen c.put_slot.new.sink).taken
    c.put_slot.new.refusal c.put_slot.result c.in-Slot.is c.put_slot.ensures.puts

pub put_node-returns-in-Fragment-clause-puts : goal.put_node-returns-in-Fragment-clause-puts
put_node-returns-in-Fragment-clause-puts g t c =
    fragment_node c.args.node.now c.in-Fragment.slot (stack_of c.args.around.now) (g.S.Sink.seen c.args.sink.now).taken (g.S.Sink.seen c.put_fragment.new.sink).taken
    c.put_fragment.new.refusal c.put_fragment.result c.in-Fragment.is c.put_fragment.ensures.puts

pub put_node-returns-in-Never-clause-puts : goal.put_node-returns-in-Never-clause-puts
put_node-returns-in-Never-clause-puts g t c =
    let stack = stack_of c.args.around.now in
    let opening = opened_of c.in-Section.opened in
    section_node c.args.node.now c.in-Section.opened c.in-Section.body c.in-Section.otherwise stack (g.S.Sink.seen c.args.sink.now).taken
    (g.S.Sink.seen c.put_nodes.new.sink).taken c.put_nodes.new.refusal c.put_nodes.result c.in-Section.is
    (section_made opening (nodes_of c.in-Section.body.items) (nodes_of c.in-Section.otherwise.items) (option_map datum_of c.look_up-value.result) stack
    (unrolled (nodes_of c.in-Section.otherwise.items) stack) _ _ _ _ c.look_up-value.ensures
    (never_told opening (refused_for c.in-Section.opened.times (option_map datum_of c.look_up-value.result)) (λ inner. unrolled (nodes_of c.in-Section.body.items) inner) (unrolled (nodes_of c.in-Section.otherwise.items) stack)
    (stacks c.in-Section.opened.times (option_map datum_of c.look_up-value.result) stack) (sym c.refused_for.ensures ∙ c.in_default.is) c.in-Never.ensures)
    c.put_nodes.ensures.puts)

pub put_node-returns-in-Here-clause-puts : goal.put_node-returns-in-Here-clause-puts
put_node-returns-in-Here-clause-puts g t c =
    let stack = stack_of c.args.around.now in
    let opening = opened_of c.in-Section.opened in
    section_node c.args.node.now c.in-Section.opened c.in-Section.body c.in-Section.otherwise stack (g.S.Sink.seen c.args.sink.now).taken
    (g.S.Sink.seen c.put_nodes-in-Here.new.sink).taken c.put_nodes-in-Here.new.refusal c.put_nodes-in-Here.result c.in-Section.is
    (section_made opening (nodes_of c.in-Section.body.items) (nodes_of c.in-Section.otherwise.items) (option_map datum_of c.look_up-value.result) stack
    (unrolled (nodes_of c.in-Section.body.items) stack) _ _ _ _ c.look_up-value.ensures
    (stands_told opening (refused_for c.in-Section.opened.times (option_map datum_of c.look_up-value.result)) (λ inner. unrolled (nodes_of c.in-Section.body.items) inner) (unrolled (nodes_of c.in-Section.otherwise.items) stack)
    (stacks c.in-Section.opened.times (option_map datum_of c.look_up-value.result) stack) stack (sym c.refused_for.ensures ∙ c.in_default.is) c.in-Here.ensures)
    c.put_nodes-in-Here.ensures.puts)

pub put_node-returns-in-Inside-clause-puts : goal.put_node-returns-in-Inside-clause-puts
put_node-returns-in-Inside-clause-puts g t c =
    let stack = stack_of c.args.around.now in
    let opening = opened_of c.in-Section.opened in
    section_node c.args.node.now c.in-Section.opened c.in-Section.body c.in-Section.otherwise stack (g.S.Sink.seen c.args.sink.now).taken
    (g.S.Sink.seen c.put_inside.new.sink).taken c.put_inside.new.refusal c.put_inside.result c.in-Section.is
    (section_made opening (nodes_of c.in-Section.body.items) (nodes_of c.in-Section.otherwise.items) (option_map datum_of c.look_up-value.result) stack
    (unrolled (nodes_of c.in-Section.body.items) (datum_of c.in-Inside.value ∷ stack)) _ _ _ _ c.look_up-value.ensures
    (stands_told opening (refused_for c.in-Section.opened.times (option_map datum_of c.look_up-value.result)) (λ inner. unrolled (nodes_of c.in-Section.body.items) inner) (unrolled (nodes_of c.in-Section.otherwise.items) stack)
    (stacks c.in-Section.opened.times (option_map datum_of c.look_up-value.result) stack) (datum_of c.in-Inside.value ∷ stack) (sym c.refused_for.ensures ∙ c.in_default.is) c.in-Inside.ensures)
    c.put_inside.ensures.puts)

pub put_node-returns-in-Each-clause-puts : goal.put_node-returns-in-Each-clause-puts
put_node-returns-in-Each-clause-puts g t c =
    let stack = stack_of c.args.around.now in
    let opening = opened_of c.in-Section.opened in
    section_node c.args.node.now c.in-Section.opened c.in-Section.body c.in-Section.otherwise stack (g.S.Sink.seen c.args.sink.now).taken
    (g.S.Sink.seen c.put_each.new.sink).taken c.put_each.new.refusal c.put_each.result c.in-Section.is
    (section_made opening (nodes_of c.in-Section.body.items) (nodes_of c.in-Section.otherwise.items) (option_map datum_of c.look_up-value.result) stack
    (unrolled_each (λ inner. unrolled (nodes_of c.in-Section.body.items) inner) (item_stacks (items_in c.in-Each.items) stack)) _ _ _ _ c.look_up-value.ensures
    (each_told opening (refused_for c.in-Section.opened.times (option_map datum_of c.look_up-value.result)) (λ inner. unrolled (nodes_of c.in-Section.body.items) inner) (unrolled (nodes_of c.in-Section.otherwise.items) stack)
    (stacks c.in-Section.opened.times (option_map datum_of c.look_up-value.result) stack) (item_stacks (items_in c.in-Each.items) stack) c.in-Each.ensures.1
    c.in-Each.ensures.2 (sym c.refused_for.ensures ∙ c.in_default.is) c.in-Each.ensures.0 c.in-Each.ensures.3 c.in-Each.ensures.4)
    c.put_each.ensures.puts)

pub put_nodes-loop-node-init : goal.put_nodes-loop-node-init
put_nodes-loop-node-init g t c = record { so_far = none_yet _ _; reference = refl; before = refl }

pub put_nodes-loop-node-preserved : goal.put_nodes-loop-node-preserved
put_nodes-loop-node-preserved g t c =
    let stack = stack_of c.args.around.now in
    record {
      so_far = one_more (unrolled (nodes_of c.args.nodes.now.items) stack) (λ rest. unrolled (placed_node c.node-item.result rest) stack)
          (nodes_of (drop (c.loop-node.node-index + 1) c.args.nodes.now.items)) stack _ _ _
          (before_node (unrolled (nodes_of c.args.nodes.now.items) stack) c.deref-node-items.result.now c.args.nodes.now.items c.loop-node.node-index c.node-item.result
          stack (g.S.Sink.seen c.args.sink.now).taken (g.S.Sink.seen c.loop-node.sink).taken c.deref-node-items.ensures.value (omega arith) c.node-item.is c.loop-node.invariant.so_far)
          c.in-Ok.ensures.puts;
      reference = c.in-Ok.ensures.same_reference ∙ c.loop-node.invariant.reference;
      before = c.in-Ok.ensures.same_before ∙ c.loop-node.invariant.before;
    }

pub put_nodes-returns-in-Err-clause-puts : goal.put_nodes-returns-in-Err-clause-puts
put_nodes-returns-in-Err-clause-puts g t c =
    let stack = stack_of c.args.around.now in
    stop_behind (unrolled (nodes_of c.args.nodes.now.items) stack) (λ rest. unrolled (placed_node c.node-item.result rest) stack)
    (nodes_of (drop (c.loop-node.node-index + 1) c.args.nodes.now.items)) stack (g.S.Sink.seen c.args.sink.now).taken (g.S.Sink.seen c.loop-node.sink).taken
    (g.S.Sink.seen c.put_node.new.sink).taken c.put_node.new.refusal c.in-Err.stop
    (before_node (unrolled (nodes_of c.args.nodes.now.items) stack) c.deref-node-items.result.now c.args.nodes.now.items c.loop-node.node-index c.node-item.result
    stack (g.S.Sink.seen c.args.sink.now).taken (g.S.Sink.seen c.loop-node.sink).taken c.deref-node-items.ensures.value (omega arith) c.node-item.is c.loop-node.invariant.so_far)
    c.in-Err.ensures.puts
