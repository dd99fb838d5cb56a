use Rattle.std.proofs.Common.{length, ◌≡◌, ◌≤◌, List, ◌++◌}
use Rattle.html_view.specs.Cursors.{Here, here_of}
use Rattle.html_view.specs.Reading.{Gives}
use Rattle.html_view.specs.declared.source.blocks.Block.{Block}
use Rattle.html_view.proofs.source.blocks.read_blocks.Given as goal

abbrev pub invariant-loop-piece : goal.invariant-loop-piece
invariant-loop-piece g l = record {
  shorter : length l.cursor.rest.now ≤ length l.initial.cursor.rest.now;
  leads : (blocks : List Block) (next : Here) → Gives l.outer l.layout (here_of l.cursor) blocks next
      → (all : List Block) × Gives l.outer l.layout (here_of l.initial.cursor) all next × (l.given.items ++ blocks ≡ l.initial.given.items ++ all);
}

abbrev pub decreases-loop-piece : goal.decreases-loop-piece
decreases-loop-piece g l = length l.cursor.rest.now
