use Rattle.std.proofs.Common.{◌≡◌, length}
use Rattle.hesc_places.specs.Pages.AttributeReadings.{first_ending}
use Rattle.hesc_places.proofs.markup.tag_reader.first_ending.Given as goal

-- no byte before the rest is an ending
abbrev pub invariant-bytes : goal.invariant-bytes
invariant-bytes l = first_ending l.rest ≡ first_ending l.bytes

abbrev pub decreases-bytes : goal.decreases-bytes
decreases-bytes l = length l.rest
