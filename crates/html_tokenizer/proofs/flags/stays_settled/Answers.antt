use Rattle.std.proofs.Common.{sym, ◌∙◌}
use Rattle.html_tokenizer.proofs.FlagTable.{stop_tells}
use Rattle.html_tokenizer.proofs.flags.stays_settled.Goals as goal

pub returns-else-is_name_byte : goal.returns-else-is_name_byte
returns-else-is_name_byte c = rw (sym c.is_name_byte.ensures ∙ c.if-is_name_byte.false) (stop_tells c.args.byte c.ranges.byte.fits)
