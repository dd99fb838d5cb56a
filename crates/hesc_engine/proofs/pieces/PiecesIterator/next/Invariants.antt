use Rattle.std.proofs.Common.{◌≡◌}
use Rattle.std.specs.Prelude.{None}
use Rattle.hesc_engine.specs.Pieces.{parts_left, segments_left}
use Rattle.hesc_engine.proofs.pieces.PiecesIterator.next.Given as goal

abbrev pub invariant-finding : goal.invariant-finding
invariant-finding g l = record {
  left : parts_left l.self ≡ parts_left l.initial.self;
  pending : l.self.pending ≡ None;
}

abbrev pub decreases-finding : goal.decreases-finding
decreases-finding g l = segments_left l.self
