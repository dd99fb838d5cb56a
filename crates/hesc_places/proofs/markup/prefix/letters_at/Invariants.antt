use Rattle.std.proofs.Common.{◌≡◌, ◌+◌, length}
use Rattle.std.specs.Char.{is_ascii_lowercase}
use Rattle.std.specs.List.{prefix_len}
use Rattle.hesc_places.proofs.markup.prefix.letters_at.Given as goal

-- so far there were letters alone, and the others are those at the front of the rest
abbrev pub invariant-letters : goal.invariant-letters
invariant-letters l = record {
  counted : prefix_len is_ascii_lowercase l.bytes ≡ l.count + prefix_len is_ascii_lowercase l.rest;
  all : l.count + length l.rest ≡ length l.bytes;
}

abbrev pub decreases-letters : goal.decreases-letters
decreases-letters l = length l.rest
