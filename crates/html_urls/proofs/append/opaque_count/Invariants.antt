use Rattle.std.proofs.Common.{◌≡◌, ◌+◌, ◌-◌, ◌≤◌, length}
use Rattle.html_urls.specs.Slots.{opaque_count}
use Rattle.html_urls.proofs.append.opaque_count.Given as goal

abbrev pub invariant-slots : goal.invariant-slots
invariant-slots l = record {
  same : opaque_count l.slots ≡ (length l.slots - length l.rest) + opaque_count l.rest;
  fewer : length l.rest ≤ length l.slots;
}

abbrev pub decreases-slots : goal.decreases-slots
decreases-slots l = length l.rest
