use Rattle.std.proofs.Common.{ap, rules, length, take, ◌∙◌}
use Rattle.std.proofs.lemmas.Nat.{le_bytes_8}
use Rattle.hesc_sinks.specs.Text.{small_text_bytes}
use Rattle.hesc_sinks.proofs.small_text.SmallText.word.Goals as goal

pub returns : goal.returns
returns c = ap (take (length (small_text_bytes c.args.self.now))) (le_bytes_8 c.block.result c.from_le_bytes.result (search rules) (search rules) c.from_le_bytes.ensures) ∙ c.block.ensures
