use Rattle.std.proofs.Common.{◌≡◌}
use Rattle.hesc_tool.proofs.words.words_after_name.Given as goal

-- the words so far
abbrev pub invariant-words : goal.invariant-words
invariant-words g l = l.words.items ≡ l.yielded
