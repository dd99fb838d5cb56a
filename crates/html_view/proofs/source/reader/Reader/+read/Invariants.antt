use Rattle.std.proofs.Common.{◌≡◌, ◌≤◌, ◌+◌, ◌*◌, length}
use Rattle.html_view.specs.Cursors.{Here, here_of}
use Rattle.html_view.specs.Kept.{asked_nodes}
use Rattle.html_view.specs.Nodes.{Asked, Nodes}
use Rattle.html_view.specs.Reading.{Reads, partials_of}
use Rattle.html_view.proofs.source.reader.Reader.+read.Given as goal

abbrev pub decreases-read : goal.decreases-read
decreases-read g l = 3 * l.around.levels + 2

abbrev pub decreases-read_tag : goal.decreases-read_tag
decreases-read_tag g l = 3 * l.around.levels + 1

abbrev pub decreases-read_section : goal.decreases-read_section
decreases-read_section g l = 3 * l.around.levels

abbrev pub decreases-read_unless : goal.decreases-read_unless
decreases-read_unless g l = 3 * l.around.levels

abbrev pub decreases-read_partial : goal.decreases-read_partial
decreases-read_partial g l = 3 * l.around.levels

abbrev pub decreases-read_layout : goal.decreases-read_layout
decreases-read_layout g l = 3 * l.around.levels

abbrev pub decreases-read_block : goal.decreases-read_block
decreases-read_block g l = 3 * l.around.levels

abbrev pub invariant-read-loop-piece : goal.invariant-read-loop-piece
invariant-read-loop-piece g l = record {
  shorter : length l.cursor.rest.now ≤ length l.initial.cursor.rest.now;
  leads : (after found : Nodes Asked) (next : Here) → Reads (partials_of l.self.partials.now) l.self.given.now l.around.begun (here_of l.cursor) after found next
      → (whole : Nodes Asked) × Reads (partials_of l.self.partials.now) l.self.given.now l.around.begun (here_of l.initial.cursor) after whole next
      × (asked_nodes l.nodes.items found ≡ asked_nodes l.initial.nodes.items whole);
}

abbrev pub decreases-read-loop-piece : goal.decreases-read-loop-piece
decreases-read-loop-piece g l = length l.cursor.rest.now
