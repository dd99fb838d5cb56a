use Rattle.std.proofs.Common.{sym}
use Rattle.std.proofs.lemmas.List.{drop_all, drop_more}
use Rattle.html_escape.proofs.body_encoder.partial.is_beginning.Goals as goal

-- no letter is left for the byte
pub returns-then-i-word : goal.returns-then-i-word
returns-then-i-word c =
    sym (rw (drop_all c.loop-i.i c.args.word.now c.if-i-word.true, drop_more c.args.bytes.now c.loop-i.i 0 c.loop-i-test.true) at c.loop-i.invariant)
