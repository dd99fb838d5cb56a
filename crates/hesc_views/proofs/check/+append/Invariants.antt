use Rattle.std.proofs.Common.{◌≡◌, ◌++◌, string_bytes, take}
use Rattle.hesc_views.specs.Checks.{lines_of}
use Rattle.hesc_views.proofs.check.+append.Given as goal

-- the lines of the nodes so far
abbrev pub invariant-append_nodes-loop-node : goal.invariant-append_nodes-loop-node
invariant-append_nodes-loop-node g l =
    string_bytes l.output ≡ string_bytes l.initial.output ++ lines_of (take l.node-index l.nodes.items)
