use Rattle.std.proofs.Common.{refl}
use Rattle.hesc_engine.proofs.pieces.Piece.as_str.Goals as goal

pub returns-in-Kept : goal.returns-in-Kept
returns-in-Kept c = rw c.in-Kept.is refl
