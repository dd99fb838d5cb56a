use Rattle.std.proofs.Common.{◌≡◌, map, take}
use Rattle.std.specs.String.{string_bytes}
use Rattle.hesc_tool.proofs.words.lent.Given as goal

-- the words so far
abbrev pub invariant-words : goal.invariant-words
invariant-words g l = map (λ word. word.now) l.lent.items ≡ map string_bytes (take l.word-index l.words)
