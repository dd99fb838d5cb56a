use Rattle.std.proofs.Common.{take}
use Rattle.html_view.specs.Following.{Follows, ways_of}
use Rattle.html_view.specs.Kept.{asked_nodes, placed_nodes}
use Rattle.html_view.specs.Takes.{AreAmong}
use Rattle.html_view.proofs.follow.+follow.Given as goal

abbrev pub invariant-follow-loop-node : goal.invariant-follow-loop-node
invariant-follow-loop-node g l =
    Follows (asked_nodes (take l.node-index l.nodes.items)) (placed_nodes l.placed.items) (ways_of l.fn.ways) (ways_of l.ways)

abbrev pub invariant-follow_rounds-loop-round : goal.invariant-follow_rounds-loop-round
invariant-follow_rounds-loop-round g l = AreAmong (ways_of l.initial.head) (ways_of l.head)
