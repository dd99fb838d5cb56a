use Rattle.std.proofs.Common.{[]}
use Rattle.html_tokenizer.specs.Tokenizer.Actions.{CodeByte}
use Rattle.html_tokenizer.specs.Tokenizer.Code.{in_code_byte}
use Rattle.html_tokenizer.proofs.tags.end_tags.code_end_tag_byte.Goals as goal

pub returns : goal.returns
returns c =
    c.held_end_tag_byte.ensures [] _ CodeByte (in_code_byte c.args.code c.args.content c.args.byte)
    (c.goes-longer.ensures c.args.word.now) (c.in_code_byte-again.ensures c.args.word.now)
