use Rattle.html_view.specs.Following.{ways_of}
use Rattle.html_view.specs.Kept.{asked_nodes, placed_nodes}
use Rattle.html_view.specs.Nodes as node
use Rattle.html_view.proofs.Spelling.{view_plain}
use Rattle.html_view.proofs.Views.{are_templates}
use Rattle.html_view.proofs.view.View.placed.Goals as goal

pub invariant_of-result : goal.invariant_of-result
invariant_of-result g c = record {
  sound = are_templates (asked_nodes c.args.nodes.now.items) (placed_nodes c.in_ok-nodes.nodes.items) (ways_of c.first-ways.result)
      (ways_of c.follow.new.ways) c.first-ways.ensures c.in_ok-nodes.ensures (c.in_ok-may_end.ensures c.if-not-branch.false);
}

pub returns-clause-nodes : goal.returns-clause-nodes
returns-clause-nodes g c = c.in_ok-nodes.ensures.same node.End

pub returns-clause-spelled : goal.returns-clause-spelled
returns-clause-spelled g c =
    view_plain (asked_nodes c.args.nodes.now.items) (placed_nodes c.in_ok-nodes.nodes.items) (ways_of c.first-ways.result)
    (ways_of c.follow.new.ways) c.first-ways.ensures c.in_ok-nodes.ensures
