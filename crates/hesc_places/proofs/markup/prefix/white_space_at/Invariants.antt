use Rattle.std.proofs.Common.{◌≡◌, ◌+◌, length}
use Rattle.std.specs.List.{prefix_len}
use Rattle.hesc_grammars.specs.Words.{is_white_space}
use Rattle.hesc_places.proofs.markup.prefix.white_space_at.Given as goal

-- so far there was white space alone, and the other is that at the front of the rest
abbrev pub invariant-space : goal.invariant-space
invariant-space l = record {
  counted : prefix_len is_white_space l.bytes ≡ l.count + prefix_len is_white_space l.rest;
  all : l.count + length l.rest ≡ length l.bytes;
}

abbrev pub decreases-space : goal.decreases-space
decreases-space l = length l.rest
