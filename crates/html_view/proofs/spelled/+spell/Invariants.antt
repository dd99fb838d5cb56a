use Rattle.std.proofs.Common.{take}
use Rattle.html_tokenizer.specs.Tokenizer.Phases.{tokenizer_of}
use Rattle.html_view.specs.Kept.{asked_nodes}
use Rattle.html_view.specs.Spelled.{Spells}
use Rattle.html_view.proofs.spelled.+spell.Given as goal

abbrev pub invariant-spell-loop-node : goal.invariant-spell-loop-node
invariant-spell-loop-node g l =
    Spells (asked_nodes (take l.node-index l.nodes.items)) (asked_nodes l.spelled.items) (tokenizer_of l.fn.reader) (tokenizer_of l.reader)
