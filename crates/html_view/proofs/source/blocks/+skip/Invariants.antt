use Rattle.std.proofs.Common.{length, ◌≤◌}
use Rattle.html_view.specs.Cursors.{Here, here_of}
use Rattle.html_view.specs.Reading.{Skips}
use Rattle.html_view.proofs.source.blocks.+skip.Given as goal

abbrev pub decreases-skip : goal.decreases-skip
decreases-skip l = l.levels

abbrev pub invariant-loop-piece : goal.invariant-loop-piece
invariant-loop-piece l = record {
  shorter : length l.cursor.rest.now ≤ length l.initial.cursor.rest.now;
  leads : (next : Here) → Skips l.begun (here_of l.cursor) next → Skips l.begun (here_of l.initial.cursor) next;
}

abbrev pub decreases-loop-piece : goal.decreases-loop-piece
decreases-loop-piece l = length l.cursor.rest.now
