use Rattle.html_tokenizer.proofs.FlagTable.{mark_tells}
use Rattle.html_tokenizer.proofs.flags.is_mark.Goals as goal

pub returns : goal.returns
returns c = mark_tells c.args.byte c.ranges.byte.fits
