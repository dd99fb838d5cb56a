use Rattle.std.proofs.Common.{◌≡◌, ◌-◌, ◌≤◌, length}
use Rattle.html_urls.specs.Slots.{texts_of}
use Rattle.html_urls.specs.TextFaults.{first_refused}
use Rattle.html_urls.proofs.append.first_refused.Given as goal

abbrev pub invariant-slots : goal.invariant-slots
invariant-slots l = record {
  same : first_refused (length l.texts - length l.left) l.rest (texts_of l.left) ≡ first_refused 0 l.slots (texts_of l.texts);
  fewer : length l.left ≤ length l.texts;
}

abbrev pub decreases-slots : goal.decreases-slots
decreases-slots l = length l.rest
