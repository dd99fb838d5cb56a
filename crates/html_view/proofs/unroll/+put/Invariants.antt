use Rattle.std.proofs.Common.{◌≡◌, drop}
use Rattle.html_view.specs.Data.{item_stacks}
use Rattle.html_view.specs.Rendered.{unrolled, unrolled_each}
use Rattle.html_view.specs.Kept.{nodes_of}
use Rattle.html_view.specs.Values.{items_in, stack_of}
use Rattle.html_view.proofs.Putting.{IsSoFar, item_count}
use Rattle.html_view.proofs.unroll.+put.Given as goal

abbrev pub invariant-put_each-items : goal.invariant-put_each-items
invariant-put_each-items g l = record {
  so_far : IsSoFar (unrolled_each (λ inner. unrolled (nodes_of l.body.items) inner) (item_stacks (items_in l.items) (stack_of l.around)))
      (unrolled_each (λ inner. unrolled (nodes_of l.body.items) inner) (item_stacks (items_in l.rest) (stack_of l.around)))
      (g.S.Sink.seen l.initial.sink).taken (g.S.Sink.seen l.sink).taken;
  reference : (g.S.Sink.seen l.sink).reference ≡ (g.S.Sink.seen l.initial.sink).reference;
  before : (g.S.Sink.seen l.sink).before ≡ (g.S.Sink.seen l.initial.sink).before;
}

abbrev pub decreases-put_each-items : goal.decreases-put_each-items
decreases-put_each-items g l = item_count (items_in l.rest)

abbrev pub invariant-put_nodes-loop-node : goal.invariant-put_nodes-loop-node
invariant-put_nodes-loop-node g l = record {
  so_far : IsSoFar (unrolled (nodes_of l.nodes.items) (stack_of l.around)) (unrolled (nodes_of (drop l.node-index l.nodes.items)) (stack_of l.around))
      (g.S.Sink.seen l.initial.sink).taken (g.S.Sink.seen l.sink).taken;
  reference : (g.S.Sink.seen l.sink).reference ≡ (g.S.Sink.seen l.initial.sink).reference;
  before : (g.S.Sink.seen l.sink).before ≡ (g.S.Sink.seen l.initial.sink).before;
}
