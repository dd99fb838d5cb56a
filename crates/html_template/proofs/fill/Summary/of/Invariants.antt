use Rattle.std.proofs.Common.{◌≡◌, ◌≤◌, ◌+◌, length, map, true, if◌then◌else◌}
use Rattle.html_template.specs.FillFaults.{has_checked, slot_count}
use Rattle.html_template.specs.Templates.{chunk_of}
use Rattle.html_template.proofs.fill.Summary.of.Given as goal

abbrev pub invariant-pieces : goal.invariant-pieces
invariant-pieces l = record {
  slots : l.slots + slot_count (map chunk_of l.rest) ≡ slot_count (map chunk_of l.pieces);
  checked : (if l.has_checked then true else has_checked (map chunk_of l.rest)) ≡ has_checked (map chunk_of l.pieces);
  few : l.slots + length l.rest ≤ length l.pieces;
}

abbrev pub decreases-pieces : goal.decreases-pieces
decreases-pieces l = length l.rest
