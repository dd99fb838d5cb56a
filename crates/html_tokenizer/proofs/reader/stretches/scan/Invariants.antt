use Rattle.std.proofs.Common.{ℕ, ◌≡◌, ◌-◌, ◌≤◌, ◌<◌, false, length, slice_index}
use Rattle.html_tokenizer.specs.Tokenizer.Stretches.{leaves}
use Rattle.html_tokenizer.proofs.reader.stretches.scan.Given as goal

abbrev pub invariant-stretch : goal.invariant-stretch
invariant-stretch l = record {
  within : l.count ≤ length l.bytes;
  none : (k : ℕ) → k < l.count → leaves l.element l.phase (slice_index l.bytes k) ≡ false;
}

abbrev pub decreases-stretch : goal.decreases-stretch
decreases-stretch l = length l.bytes - l.count
