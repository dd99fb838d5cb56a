use Rattle.html_tokenizer.proofs.FlagTable.{word_tells}
use Rattle.html_tokenizer.proofs.flags.is_name_byte.Goals as goal

pub returns : goal.returns
returns c = word_tells c.args.byte c.ranges.byte.fits
