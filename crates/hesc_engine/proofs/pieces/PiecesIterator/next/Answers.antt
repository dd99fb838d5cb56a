use Rattle.std.proofs.Common.{rules}
use Rattle.hesc_engine.proofs.pieces.PiecesIterator.next.Goals as goal
use Rattle.hesc_engine.proofs.pieces.PiecesIterator.next.Goals.{then-is_new, else-is_new}

pub returns-then-not-is_empty-clause-steps : goal.returns-then-not-is_empty-clause-steps
returns-then-not-is_empty-clause-steps g c = elim c.if-is_new.branch [ then-is_new w ↦ search rules | else-is_new w ↦ search rules ]
