use Rattle.std.proofs.Common.{◌≡◌, ◌+◌, set, ◌++◌, ◌∷◌, [], append_assoc, take, arith, sym}
use Rattle.std.proofs.lemmas.List.{take_more_set}
use Rattle.html_tokenizer.specs.Tokenizer.Phases.{state_of}
use Rattle.html_tokenizer.specs.Tokenizer.States.{at_value}
use Rattle.html_tokenizer.proofs.Passing.{reads_longer}
use Rattle.html_tokenizer.proofs.reader.names.read_letters.Goals as goal

pub letters-preserved : goal.letters-preserved
letters-preserved c =
    let bytes = c.args.bytes.now in
    let count = c.letters.count in
    let phase = c.args.phase in
    let held = c.args.already + count in
    let before = take held c.letters.letters in
    let longer : take (held + 1) (set c.letters.letters held c.in-Some.letter) ≡ before ++ c.in-Some.letter ∷ [] =
    take_more_set c.letters.letters held c.in-Some.letter (omega arith) in
    let next : c.args.already + (count + 1) ≡ held + 1 = omega arith in
    record {
      within = omega arith;
      room = omega arith;
      read = λ content attribute word holds.
          rw (next, longer, ← append_assoc word before (c.in-Some.letter ∷ []))
          (sym (reads_longer (at_value (state_of phase (word ++ take c.args.already c.args.letters.now)) content attribute)
          (at_value (state_of phase (word ++ before)) content attribute)
          (at_value (state_of phase ((word ++ before) ++ c.in-Some.letter ∷ [])) content attribute) bytes count
          (omega arith) (sym (c.letters.invariant.read content attribute word holds))
          (c.in-Some.ensures content attribute (word ++ before) holds)));
    }
