use Rattle.std.proofs.Common.{◌∙◌}
use Rattle.hesc_sinks.proofs.small_text.SmallText.from_char.Goals as goal

pub returns-else-is_ascii : goal.returns-else-is_ascii
returns-else-is_ascii c = c.new.ensures ∙ c.encode_utf8.ensures.value
