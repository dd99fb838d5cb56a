use Rattle.std.proofs.Common.{◌≡◌, ◌+◌, [], append-nil, arith}
use Rattle.html_tokenizer.specs.Tokenizer.Phases.{attribute_in, tokenizer_of}
use Rattle.html_tokenizer.proofs.HeldWords.{settled_held}
use Rattle.html_tokenizer.proofs.Passing.{reads_stretch}
use Rattle.html_tokenizer.proofs.reader.Reader.read_held.Goals as goal

pub returns : goal.returns
returns g c =
    let self = c.args.self.now in
    let count = c.read_letters-count.result in
    let all : 0 + count ≡ count = omega arith in
    reads_stretch (tokenizer_of self) _ c.args.bytes.now c.args.done.now count
    (omega (arith, c.read_letters-count.ensures.within))
    (rw (
      settled_held self.kind self.word.items [] c.requires.kind,
      settled_held self.kind c.extend_from_slice.new.self.items [] c.requires.kind,
      c.in_ok-extend_from_slice.ensures.items,
    ) (rw (append-nil self.word.items, all) at (c.read_letters-count.ensures.read self.content (attribute_in self.kind []) self.word.items c.requires.letters)))
