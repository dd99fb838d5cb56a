use Rattle.std.proofs.Common.{◌≡◌, ◌-◌, ◌≤◌, length, take}
use Rattle.html_tokenizer.specs.declared.elements.Content.{Content}
use Rattle.html_tokenizer.specs.declared.elements.OpenElement.TheVariants.{Script}
use Rattle.html_tokenizer.specs.Tokenizer.States.{InCode, at}
use Rattle.html_tokenizer.specs.Tokenizer.Tokenization.{state_after}
use Rattle.html_tokenizer.proofs.reader.stretches.script_words.Given as goal

abbrev pub invariant-words : goal.invariant-words
invariant-words l = record {
  within : l.count ≤ length l.bytes;
  read : (content : Content) → content.element ≡ Script → state_after (at (InCode l.fn.code) content) (take l.count l.bytes) ≡ at (InCode l.reached) content;
}

abbrev pub decreases-words : goal.decreases-words
decreases-words l = length l.bytes - l.count
