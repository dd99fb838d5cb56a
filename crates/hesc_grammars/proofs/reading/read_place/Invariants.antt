use Rattle.std.proofs.Common.{IsUtf8, length}
use Rattle.hesc_grammars.proofs.ReadingTurns.{Follows}
use Rattle.hesc_grammars.proofs.ReadTexts.{ReadsText}
use Rattle.hesc_grammars.proofs.reading.read_place.Given as goal

-- what was read, and the reading of the rest, are the reading of the whole; of a text, a text is read
abbrev pub invariant-reading : goal.invariant-reading
invariant-reading g l = record {
  follows : Follows l.place l.bytes l.value.items l.mode l.rest;
  text : IsUtf8 l.bytes → ReadsText l.value.items l.rest;
}

abbrev pub decreases-reading : goal.decreases-reading
decreases-reading g l = length l.rest
