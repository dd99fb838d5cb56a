use Rattle.std.proofs.Common.{◌≡◌, arith, sym, ◌∙◌}
use Rattle.html_tokenizer.specs.Tokenizer.Phases.{tokenizer_of}
use Rattle.html_tokenizer.specs.Tokenizer.Tokenization.{consume}
use Rattle.html_tokenizer.specs.declared.states.Phase.TheVariants.{TagOpen}
use Rattle.html_tokenizer.proofs.Passing.{reads_byte}
use Rattle.html_tokenizer.proofs.reader.Reader.read_slash.Goals as goal

pub returns : goal.returns
unfolding consume
returns g c =
    let self = c.args.self.now in
    let same : self.phase ≡ TagOpen = c.is_same.ensures c.if-not-is_same.false in
    reads_byte (tokenizer_of self) (tokenizer_of c.go.new.self) c.args.bytes.now c.args.done.now (omega arith)
    (rw (same, c.if-bytes-done-ne47.false) (sym (c.in_ok-go.ensures ∙ c.to.ensures self.word.items)))
