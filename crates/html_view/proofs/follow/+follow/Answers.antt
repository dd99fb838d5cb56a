use Rattle.std.proofs.Common.{◌≤◌, ◌+◌, ◌∙◌, List, length, subst, sym, arith}
use Rattle.html_view.specs.Following.{Adds, ways_of}
use Rattle.html_view.specs.Kept.{asked_node, asked_nodes, asked_of, placed_nodes}
use Rattle.html_view.specs.Nodes as node
use Rattle.html_view.specs.Takes.{AreAmong, GoesOn}
use Rattle.html_view.specs.declared.node.Node.{Node}
use Rattle.html_view.specs.declared.node.Times.TheVariants.{Each}
use Rattle.html_view.proofs.Followed.{added_same, all_among, asked_fragment, asked_markup, asked_section, asked_slot, body_back, body_once, body_wider, followed_all, followed_more, followed_start, markup_followed, when_ok}
use Rattle.html_view.proofs.follow.+follow.Goals as goal
use Rattle.html_view.proofs.follow.+follow.Goals.{follow_again-in-Some, follow_again-in-None}

pub follow-loop-node-init : goal.follow-loop-node-init
follow-loop-node-init g t c =
    followed_start c.args.nodes.now.items c.in_ok-placed.placed.items (ways_of c.args.ways.now) (ways_of c.enter.new.self)
    c.in_ok-placed.ensures.items c.in_ok-enter.ensures

pub follow-loop-node-preserved : goal.follow-loop-node-preserved
follow-loop-node-preserved g t c =
    followed_more c.deref-node-items.result.now c.args.nodes.now.items c.loop-node.node-index (c.loop-node.node-index + 1) c.node-item.result
    c.loop-node.placed.items c.follow_node.new.placed.items (ways_of c.args.ways.now) (ways_of c.loop-node.ways)
    (ways_of c.follow_node.new.ways) c.deref-node-items.ensures.value (omega arith) (omega arith) c.node-item.is c.in_ok-follow_node.ensures
    c.loop-node.invariant

pub follow-returns : goal.follow-returns
follow-returns g t c =
    followed_all c.args.nodes.now.items c.loop-node.node-index c.loop-node.placed.items (ways_of c.args.ways.now) (ways_of c.loop-node.ways)
    (subst (λ (n : List _). length n ≤ c.loop-node.node-index) c.deref-node-items.ensures.value c.loop-node-test.false) c.loop-node.invariant

pub follow_again-returns-in-Some-2-clause-body : goal.follow_again-returns-in-Some-2-clause-body
follow_again-returns-in-Some-2-clause-body g t c =
    let kept : AreAmong (ways_of c.in_ok-head.head) (ways_of c.match-ways.head) = elim c.match-ways.branch [
      | follow_again-in-Some w ↦
          subst (λ h. AreAmong (ways_of c.in_ok-head.head) (ways_of h)) (sym w.head-is)
          (rw (sym w.is_known-is ∙ c.in-Ok.is) at w.add_all-is_known.ensures.kept)
      | follow_again-in-None w ↦
          subst (λ h. AreAmong (ways_of c.in_ok-head.head) (ways_of h)) (sym w.head-is) (all_among (ways_of c.in_ok-head.head))
    ] in
    body_wider (asked_nodes c.args.body.now.items) (placed_nodes c.in-Some-2.repeated.nodes.items) c.in-Some-2.repeated.times
    (ways_of c.args.ways.now) (ways_of c.match-ways.head) (ways_of c.in-Some-2.repeated.ways)
    (subst (λ w. AreAmong w (ways_of c.match-ways.head)) c.in_ok-head.ensures kept) (rw c.in-Some-2.is at c.in_ok-repeated-in-Ok.ensures.body)

pub follow_once-returns-clause-body : goal.follow_once-returns-clause-body
follow_once-returns-clause-body g t c =
    body_once (asked_nodes c.args.body.now.items) (placed_nodes c.in_ok-nodes.nodes.items) c.args.times (ways_of c.args.ways.now) (ways_of c.in_ok-out.out)
    (ways_of c.follow.new.ways) c.requires c.in_ok-out.ensures c.in_ok-nodes.ensures

pub follow_new-returns-then-has_all-clause-body : goal.follow_new-returns-then-has_all-clause-body
follow_new-returns-then-has_all-clause-body g t c =
    body_back (asked_nodes c.args.body.now.items) (placed_nodes c.in_ok-once.once.nodes.items) c.in_ok-once.once.times (ways_of c.args.ways.now)
    (ways_of c.in_ok-once.once.ways) (c.has_all.ensures c.if-has_all.true) c.in_ok-once.ensures.body

pub follow_new-returns-in-Some-clause-body : goal.follow_new-returns-in-Some-clause-body
follow_new-returns-in-Some-clause-body g t c =
    body_wider (asked_nodes c.args.body.now.items) (placed_nodes c.in-Some.repeated.nodes.items) c.in-Some.repeated.times
    (ways_of c.args.ways.now) (ways_of c.add_all.new.self) (ways_of c.in-Some.repeated.ways)
    (subst (λ w. AreAmong w (ways_of c.add_all.new.self)) c.in_ok-head.ensures c.in-Ok.ensures.kept)
    (rw c.in-Some.is at c.in_ok-repeated-in-Ok.ensures.body)

pub follow_node-returns-in_ok-take_markup-in-Markup : goal.follow_node-returns-in_ok-take_markup-in-Markup
follow_node-returns-in_ok-take_markup-in-Markup g t c =
    when_ok c.add.result
    (λ adds. subst
    (λ (n : Node _). Adds (asked_node n) (placed_nodes c.args.placed.now.items) (placed_nodes c.add.new.placed.items) (ways_of c.args.ways.now)
    (ways_of c.take_markup.new.self))
    (sym c.in-Markup.is)
    (added_same (node.Markup c.in-Markup.text.now) _ _ _ _ _ (asked_markup _ c.in-Markup.text c.in-Markup.position)
    (adds (node.Markup c.in-Markup.text.now) (ways_of c.args.ways.now) (ways_of c.take_markup.new.self)
    (markup_followed _ c.in-Markup.text c.new.result (ways_of c.args.ways.now) (ways_of c.take_markup.new.self) c.new.ensures
    (λ way among. subst (λ b. GoesOn way b (ways_of c.take_markup.new.self)) c.as_bytes.ensures.value (c.in_ok-take_markup-in-Markup.ensures way among))))))
    c.add.ensures

pub follow_node-returns-in-Slot : goal.follow_node-returns-in-Slot
follow_node-returns-in-Slot g t c =
    when_ok c.follow_slot.result
    (λ adds. subst
    (λ (n : Node _). Adds (asked_node n) (placed_nodes c.args.placed.now.items) (placed_nodes c.follow_slot.new.placed.items) (ways_of c.args.ways.now)
    (ways_of c.follow_slot.new.ways))
    (sym c.in-Slot.is) (added_same (node.Slot (asked_of c.in-Slot.slot)) _ _ _ _ _ (asked_slot _ c.in-Slot.slot) adds))
    c.follow_slot.ensures

pub follow_node-returns-in-Fragment : goal.follow_node-returns-in-Fragment
follow_node-returns-in-Fragment g t c =
    when_ok c.follow_fragment.result
    (λ adds. subst
    (λ (n : Node _). Adds (asked_node n) (placed_nodes c.args.placed.now.items) (placed_nodes c.follow_fragment.new.placed.items) (ways_of c.args.ways.now)
    (ways_of c.args.ways.now))
    (sym c.in-Fragment.is) (added_same (node.Fragment (asked_of c.in-Fragment.slot)) _ _ _ _ _ (asked_fragment _ c.in-Fragment.slot) adds))
    c.follow_fragment.ensures

pub follow_node-returns-in_ok-other-in-Section : goal.follow_node-returns-in_ok-other-in-Section
follow_node-returns-in_ok-other-in-Section g t c =
    when_ok c.add_section.result
    (λ adds. subst
    (λ (n : Node _). Adds (asked_node n) (placed_nodes c.args.placed.now.items) (placed_nodes c.add_section.new.placed.items) (ways_of c.args.ways.now)
    (ways_of c.add_section.new.ways))
    (sym c.in-Section.is)
    (added_same _ _ _ _ _ _ (asked_section c.in-Section.opening c.in-Section.body c.in-Section.otherwise)
    (adds (asked_nodes c.in-Section.body.items) (asked_nodes c.in-Section.otherwise.items) (ways_of c.args.ways.now)
    c.in_ok-passes-in-Section.ensures.times c.in_ok-passes-in-Section.ensures.body c.in_ok-other-in-Section.ensures)))
    c.add_section.ensures

pub follow_rounds-returns-then-has_all-clause-body : goal.follow_rounds-returns-then-has_all-clause-body
follow_rounds-returns-then-has_all-clause-body g t c =
    body_wider (asked_nodes c.args.body.now.items) (placed_nodes c.in-Ok.round.nodes.items) Each (ways_of c.args.ways) (ways_of c.loop-round.head)
    (ways_of c.in-Ok.round.ways) c.loop-round.invariant
    (body_back (asked_nodes c.args.body.now.items) (placed_nodes c.in-Ok.round.nodes.items) c.in-Ok.round.times (ways_of c.loop-round.head)
    (ways_of c.in-Ok.round.ways) (c.has_all.ensures c.if-has_all.true) c.in-Ok.ensures.body)

pub follow_rounds-loop-round-preserved : goal.follow_rounds-loop-round-preserved
follow_rounds-loop-round-preserved g t c = λ way among. c.in-Ok-add_all.ensures.kept way (c.loop-round.invariant way among)
