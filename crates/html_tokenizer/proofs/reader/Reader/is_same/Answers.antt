use Rattle.std.proofs.Common.{rules}
use Rattle.html_tokenizer.proofs.HeldWords.{same_reader, same_word}
use Rattle.html_tokenizer.proofs.reader.Reader.is_same.Goals as goal

pub returns-then-not-holds_word : goal.returns-then-not-holds_word
returns-then-not-holds_word g c = λ so.
    same_reader c.args.self.now c.args.other.now (search rules) (search rules) (search rules) (c.holds_word.ensures (search rules))

pub returns : goal.returns
returns g c = λ so.
    same_word c.args.self.now c.args.other.now (search rules) (search rules) (search rules) (search rules)
