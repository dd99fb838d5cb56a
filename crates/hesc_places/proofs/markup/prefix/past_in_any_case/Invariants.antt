use Rattle.std.proofs.Common.{◌≡◌, length}
use Rattle.hesc_places.specs.Pages.Parsers.{past_in_any_case}
use Rattle.hesc_places.proofs.markup.prefix.past_in_any_case.Given as goal

-- the rest of the word is to stand at the front of the rest
abbrev pub invariant-letters : goal.invariant-letters
invariant-letters l = past_in_any_case l.letters l.rest ≡ past_in_any_case l.word l.bytes

abbrev pub decreases-letters : goal.decreases-letters
decreases-letters l = length l.letters
