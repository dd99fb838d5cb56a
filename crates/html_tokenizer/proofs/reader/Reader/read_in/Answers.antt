use Rattle.std.proofs.Common.{◌≡◌, ◌+◌, arith, sym, ◌∙◌}
use Rattle.html_tokenizer.specs.Tokenizer.Phases.{tokenizer_of}
use Rattle.html_tokenizer.specs.Tokenizer.Tokenization.{consume}
use Rattle.html_tokenizer.proofs.Passing.{reads_both, reads_byte, reads_stretch}
use Rattle.html_tokenizer.proofs.reader.Reader.read_in.Goals as goal

pub returns-then-done-bytes : goal.returns-then-done-bytes
returns-then-done-bytes g c =
    let self = c.args.self.now in
    let same : self.phase ≡ c.args.phase = c.is_same.ensures c.if-not-is_same.false in
    reads_stretch (tokenizer_of self) (tokenizer_of self) c.args.bytes.now c.args.done.now c.text_stretch.result
    (omega (arith, c.text_stretch.ensures.within)) (rw same (c.text_stretch.ensures.stays self.content self.word.items))

pub returns : goal.returns
unfolding consume
returns g c =
    let self = c.args.self.now in
    let same : self.phase ≡ c.args.phase = c.is_same.ensures c.if-not-is_same.false in
    reads_both
    (reads_stretch (tokenizer_of self) (tokenizer_of self) c.args.bytes.now c.args.done.now c.text_stretch.result
    (omega (arith, c.text_stretch.ensures.within)) (rw same (c.text_stretch.ensures.stays self.content self.word.items)))
    (reads_byte (tokenizer_of self) (tokenizer_of c.go.new.self) c.args.bytes.now (c.args.done.now + c.text_stretch.result)
    (omega (arith, c.text_stretch.ensures.within)) (rw same (sym (c.in_ok-go.ensures ∙ rw c.deref.ensures.value at c.text_or_value_byte-next.ensures))))
