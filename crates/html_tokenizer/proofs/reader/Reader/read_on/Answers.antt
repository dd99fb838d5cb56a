use Rattle.std.proofs.Common.{◌+◌, arith, sym}
use Rattle.html_tokenizer.specs.Tokenizer.Phases.{tokenizer_of}
use Rattle.html_tokenizer.proofs.Passing.{reads_both, reads_byte, reads_stretch}
use Rattle.html_tokenizer.proofs.reader.Reader.read_on.Goals as goal

pub returns-then-done-bytes : goal.returns-then-done-bytes
returns-then-done-bytes g c =
    let self = c.args.self.now in
    reads_stretch (tokenizer_of self) (tokenizer_of self) c.args.bytes.now c.args.done.now c.stretch.result
    (omega (arith, c.stretch.ensures.within)) (rw c.requires.phase (c.stretch.ensures.stays self.word.items))

pub returns : goal.returns
returns g c =
    let self = c.args.self.now in
    reads_both
    (reads_stretch (tokenizer_of self) (tokenizer_of self) c.args.bytes.now c.args.done.now c.stretch.result
    (omega (arith, c.stretch.ensures.within)) (rw c.requires.phase (c.stretch.ensures.stays self.word.items)))
    (reads_byte (tokenizer_of self) (tokenizer_of c.step_in.new.self) c.args.bytes.now (c.args.done.now + c.stretch.result)
    (omega (arith, c.stretch.ensures.within)) (sym c.in_ok-step_in.ensures))
