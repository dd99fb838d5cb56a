use Rattle.std.proofs.Common.{◌≡◌, length, map}
use Rattle.hesc_commands.specs.FormWords.{name_attributes}
use Rattle.hesc_commands.proofs.form_words.form_of.Given as goal

-- the words name attributes exactly if the rest does
abbrev pub invariant-attributes : goal.invariant-attributes
invariant-attributes l = name_attributes (map (λ word. word.now) l.rest) ≡ name_attributes (map (λ word. word.now) l.words)

abbrev pub decreases-attributes : goal.decreases-attributes
decreases-attributes l = length l.rest
