use Rattle.std.proofs.Common.{◌≡◌, ◌+◌, ◌∷◌, [], arith, sym, take, ◌∙◌}
use Rattle.html_tokenizer.specs.declared.states.Kind.TheVariants as kind
use Rattle.html_tokenizer.specs.Tokenizer.Phases.{state_of, tokenizer_of}
use Rattle.html_tokenizer.specs.Tokenizer.States.{Ordinary, Tokenizer, at}
use Rattle.html_tokenizer.specs.Tokenizer.Tokenization.{consume}
use Rattle.html_tokenizer.proofs.HeldWords.{ordinary_holds}
use Rattle.html_tokenizer.proofs.Passing.{reads_both, reads_byte, reads_stretch}
use Rattle.html_tokenizer.proofs.reader.Reader.read_name.Goals as goal

pub returns-in_default : goal.returns-in_default
returns-in_default g c =
    reads_byte (tokenizer_of c.args.self.now) (tokenizer_of c.step.new.self) c.args.bytes.now c.args.done.now (omega arith) (sym c.in_ok-step.ensures)

pub returns-then-done-bytes-2 : goal.returns-then-done-bytes-2
unfolding consume
returns-then-done-bytes-2 g c =
    let self = c.args.self.now in
    let same : self.phase ≡ c.args.phase = c.is_same.ensures c.if-not-is_same.false in
    let begun : Tokenizer = at (state_of c.in-Some.name (c.in-Some.letter ∷ [])) self.content in
    reads_both
    (reads_byte (tokenizer_of self) begun c.args.bytes.now c.args.done.now (omega arith) (rw same (c.in-Some.ensures.begins self.word.items self.kind)))
    (reads_stretch begun (tokenizer_of c.go_from.new.self) c.args.bytes.now (c.args.done.now + 1) c.read_letters-count.result
    (omega (arith, c.read_letters-count.ensures.within))
    (c.read_letters-count.ensures.read self.content Ordinary [] (ordinary_holds c.in-Some.name) ∙ sym (c.in_ok-go_from.ensures ∙ c.goes.ensures _)))

pub returns : goal.returns
unfolding consume
returns g c =
    let self = c.args.self.now in
    let same : self.phase ≡ c.args.phase = c.is_same.ensures c.if-not-is_same.false in
    let begun : Tokenizer = at (state_of c.in-Some.name (c.in-Some.letter ∷ [])) self.content in
    let named : Tokenizer = at (state_of c.in-Some.name (take (1 + c.read_letters-count.result) c.read_letters-count.new.letters)) self.content in
    reads_both
    (reads_byte (tokenizer_of self) begun c.args.bytes.now c.args.done.now (omega arith) (rw same (c.in-Some.ensures.begins self.word.items self.kind)))
    (reads_both
    (reads_stretch begun named c.args.bytes.now (c.args.done.now + 1) c.read_letters-count.result
    (omega (arith, c.read_letters-count.ensures.within)) (c.read_letters-count.ensures.read self.content Ordinary [] (ordinary_holds c.in-Some.name)))
    (reads_byte named (tokenizer_of c.go_from-2.new.self) c.args.bytes.now (c.args.done.now + 1 + c.read_letters-count.result)
    (omega (arith, c.read_letters-count.ensures.within)) (sym (c.in_ok-go_from-2.ensures ∙ c.name_byte-next.ensures kind.Ordinary))))
