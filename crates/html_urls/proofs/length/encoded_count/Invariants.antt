use Rattle.std.proofs.Common.{◌≡◌, ◌≤◌, ◌-◌, length, take}
use Rattle.html_urls.specs.Components.{encoded_count}
use Rattle.html_urls.proofs.length.encoded_count.Given as goal

abbrev pub invariant-counting : goal.invariant-counting
invariant-counting l = record {
  within : l.place ≤ length l.bytes;
  counted : l.count ≡ encoded_count (take l.place l.bytes);
  few : l.count ≤ l.place;
}

abbrev pub decreases-counting : goal.decreases-counting
decreases-counting l = length l.bytes - l.place
