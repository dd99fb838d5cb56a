use Rattle.std.proofs.Common.{◌≡◌, ◌-◌, ◌≤◌, length, take}
use Rattle.html_tokenizer.specs.declared.elements.Content.{Content}
use Rattle.html_tokenizer.specs.declared.elements.OpenElement.TheVariants.{Script}
use Rattle.html_tokenizer.specs.Tokenizer.States.{InCode, at}
use Rattle.html_tokenizer.specs.Tokenizer.Stretches.{settled}
use Rattle.html_tokenizer.specs.Tokenizer.Tokenization.{state_after}
use Rattle.html_tokenizer.proofs.reader.stretches.settled_bytes.Given as goal

abbrev pub invariant-settled : goal.invariant-settled
invariant-settled l = record {
  within : l.count ≤ length l.bytes;
  read : (content : Content) → content.element ≡ Script → state_after (at (InCode (settled l.before)) content) (take l.count l.bytes) ≡ at (InCode (settled l.last)) content;
}

abbrev pub decreases-settled : goal.decreases-settled
decreases-settled l = length l.bytes - l.count
