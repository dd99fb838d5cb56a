use Rattle.std.proofs.Common.{ℕ, ◌≡◌, ◌≤◌, List, ◌++◌, length}
use Rattle.html_view.specs.Cursors.{Here, here_of}
use Rattle.html_view.specs.Reading.{Turns, TurnsNot, spaces_of}
use Rattle.html_view.specs.declared.source.cursor.Tag.{Tag}
use Rattle.html_view.proofs.source.sections.Otherwise.pass.Given as goal

abbrev pub invariant-loop-ahead : goal.invariant-loop-ahead
invariant-loop-ahead g l = record {
  shorter : length l.ahead.rest.now ≤ length l.initial.cursor.rest.now;
  still : l.cursor ≡ l.initial.cursor;
  leads : (spaces : List (List ℕ)) (unless : Tag) (next : Here) → Turns l.name (here_of l.ahead) spaces unless next
      → Turns l.name (here_of l.initial.cursor) (spaces_of l.space.items ++ spaces) unless next;
  leads_not : TurnsNot l.name (here_of l.ahead) → TurnsNot l.name (here_of l.initial.cursor);
}

abbrev pub decreases-loop-ahead : goal.decreases-loop-ahead
decreases-loop-ahead g l = length l.ahead.rest.now
