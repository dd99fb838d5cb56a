use Rattle.std.proofs.Common.{ℕ, List, length}
use Rattle.hesc_grammars.proofs.ReadingTurns.{Follows}
use Rattle.hesc_grammars.proofs.reading.end_of_place.Given as goal

-- some value, and the reading of the rest, are the reading of the whole
abbrev pub invariant-reading : goal.invariant-reading
invariant-reading l = (value : List ℕ) × Follows l.place l.bytes value l.mode l.rest

abbrev pub decreases-reading : goal.decreases-reading
decreases-reading l = length l.rest
