use Rattle.std.proofs.Common.{ℕ, ◌≡◌, ◌-◌, ◌≤◌, ◌<◌, true, length, slice_index}
use Rattle.html_tokenizer.specs.Tokenizer.Stretches.{keeps_part}
use Rattle.html_tokenizer.proofs.reader.stretches.style_stretch.Given as goal

abbrev pub invariant-stretch : goal.invariant-stretch
invariant-stretch l = record {
  within : l.count ≤ length l.bytes;
  keeps : (k : ℕ) → k < l.count → keeps_part l.kind (slice_index l.bytes k) ≡ true;
}

abbrev pub decreases-stretch : goal.decreases-stretch
decreases-stretch l = length l.bytes - l.count
