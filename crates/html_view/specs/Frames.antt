-- What is still to be read of nodes, as the code keeps it, and how a section leads on.
use Rattle.std.specs.Prelude.{◌≡◌, ℕ, List, Option, Some, map, reverse}
use Rattle.html_template.specs.Templates.{Given}
use Rattle.html_view.specs.Kept.{asked_nodes, opening_of}
use Rattle.html_view.specs.Nodes as node
use Rattle.html_view.specs.Nodes.{Asked, Nodes, written_opening}
use Rattle.html_view.specs.Reached.{Reaches}
use Rattle.html_view.specs.declared.faults.Position.{Position}
use Rattle.html_view.specs.declared.node.Node.{Node}
use Rattle.html_view.specs.declared.node.Opening.{Opening}
use Rattle.html_view.specs.declared.retrace.Frame.{Frame}

-- where the body of the first section stood, nothing stands where it does not
abbrev pub once_stood : Option ℕ → Nodes Asked → Nodes Asked
once_stood (Some number) (node.Section opening body otherwise rest) = node.Section opening body node.End rest
once_stood again nodes = nodes

abbrev pub frame_of : {A : Type 0} → Frame A → Nodes Asked
frame_of frame = once_stood frame.again (asked_nodes frame.nodes.now node.End)

-- the innermost is the last one that the code keeps
abbrev pub work_of : {A : Type 0} → List (Frame A) → List (Nodes Asked)
work_of frames = map frame_of (reverse frames)

-- from where this was to be read there leads a way to where this is
abbrev pub Leads : List Position → List (Nodes Asked) → List Position → List (Nodes Asked) → Type 0
Leads standing work new_standing new_work =
    (nodes : Nodes Asked) (parts : List Given) (markup : List ℕ) → Reaches nodes standing parts markup work → Reaches nodes new_standing parts markup new_work

-- nodes begin with a section of this body, and these follow it
abbrev pub BeginsWith : {A : Type 0} → List (Node A) → Opening → Nodes Asked → Nodes Asked → List (Node A) → Type 0
BeginsWith nodes opening body otherwise rest =
    asked_nodes nodes node.End ≡ node.Section (written_opening (opening_of opening)) body otherwise (asked_nodes rest node.End)
