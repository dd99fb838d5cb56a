use Rattle.html_view.specs.Following.{way_of}
use Rattle.html_view.specs.Frames.{work_of}
use Rattle.html_view.specs.Kept.{asked_nodes}
use Rattle.html_view.specs.Nodes as node
use Rattle.html_view.proofs.Retraced.{Traced}
use Rattle.html_view.proofs.retrace.retrace.Given as goal

abbrev pub invariant-loop-step : goal.invariant-loop-step
invariant-loop-step g l = Traced (asked_nodes l.nodes node.End) (way_of l.way) l.trace.standing.items (work_of l.trace.work.items)
