use Rattle.std.proofs.Common.{◌≡◌, ◌++◌, drop, map}
use Rattle.html_view.specs.AskedNames.{asked_name, names_in}
use Rattle.html_view.specs.Kept.{nodes_of}
use Rattle.html_view.proofs.names.+add_names.Given as goal

abbrev pub invariant-add_names-loop-node : goal.invariant-add_names-loop-node
invariant-add_names-loop-node g l =
    map asked_name l.names.items ++ names_in (nodes_of (drop l.node-index l.nodes.items))
    ≡ map asked_name l.fn.names.items ++ names_in (nodes_of l.nodes.items)
