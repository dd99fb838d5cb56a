use Rattle.std.proofs.Common.{rules, arith}
use Rattle.html_tokenizer.specs.Tokenizer.Phases.{tokenizer_of}
use Rattle.html_tokenizer.specs.Tokenizer.States.{InCode, at}
use Rattle.html_tokenizer.proofs.Passing.{reads_both, reads_stretch}
use Rattle.html_tokenizer.proofs.reader.Reader.read_code.Goals as goal

pub returns-then-eq : goal.returns-then-eq
returns-then-eq g c =
    let self = c.args.self.now in
    reads_both
    (reads_stretch (tokenizer_of self) (at (InCode c.script_words-count.result.1) self.content) c.args.bytes.now c.args.done.now c.script_words-count.result.0
    (omega (arith, c.in_ok-read_on.ensures.forth, c.in_ok-read_on.ensures.within))
    (rw (c.requires.phase, c.requires.kind) (c.script_words-count.ensures.read self.content (search rules))))
    (rw c.requires.kind at c.in_ok-read_on.ensures)
