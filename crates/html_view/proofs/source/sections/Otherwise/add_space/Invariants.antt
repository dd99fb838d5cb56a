use Rattle.std.proofs.Common.{◌≡◌, take}
use Rattle.html_view.specs.Kept.{asked_nodes}
use Rattle.html_view.specs.Nodes.{Asked, Nodes}
use Rattle.html_view.specs.Reading.{all_marked, spaces_of}
use Rattle.html_view.proofs.source.sections.Otherwise.add_space.Given as goal

abbrev pub invariant-loop-piece : goal.invariant-loop-piece
invariant-loop-piece g l = (after : Nodes Asked) → asked_nodes l.nodes.items after
    ≡ asked_nodes l.initial.nodes.items (all_marked (spaces_of (take l.piece-index l.self.space.items)) after)
