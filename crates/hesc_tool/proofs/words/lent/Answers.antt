use Rattle.std.proofs.lemmas.List.{take_all}
use Rattle.hesc_tool.proofs.words.lent.Goals as goal

pub returns : goal.returns
returns g c = rw (take_all c.words.word-index c.args.words.now c.words-test.false) at c.words.invariant
