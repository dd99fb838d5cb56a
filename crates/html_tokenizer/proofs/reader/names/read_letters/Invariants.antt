use Rattle.std.proofs.Common.{ℕ, List, ◌≡◌, ◌++◌, ◌+◌, ◌-◌, ◌≤◌, length, take}
use Rattle.html_tokenizer.specs.declared.elements.Content.{Content}
use Rattle.html_tokenizer.specs.Tokenizer.Phases.{HoldsLetters, state_of}
use Rattle.html_tokenizer.specs.Tokenizer.States.{Attribute, at_value}
use Rattle.html_tokenizer.specs.Tokenizer.Tokenization.{state_after}
use Rattle.html_tokenizer.proofs.reader.names.read_letters.Given as goal

abbrev pub invariant-letters : goal.invariant-letters
invariant-letters l = record {
  within : l.count ≤ length l.bytes;
  room : l.already + l.count ≤ 32;
  read : (content : Content) (attribute : Attribute) (word : List ℕ) → HoldsLetters l.phase attribute →
      state_after (at_value (state_of l.phase (word ++ take l.already l.initial.letters)) content attribute) (take l.count l.bytes)
      ≡ at_value (state_of l.phase (word ++ take (l.already + l.count) l.letters)) content attribute;
}

abbrev pub decreases-letters : goal.decreases-letters
decreases-letters l = length l.bytes - l.count
