use Rattle.std.proofs.Common.{◌≡◌, ◌≤◌, take}
use Rattle.html_urls.specs.Components.{sign_count}
use Rattle.html_urls.proofs.length.sign_count.Given as goal

abbrev pub invariant-loop-b : goal.invariant-loop-b
invariant-loop-b l = record {
  counted : l.count ≡ sign_count (take l.b-index l.bytes);
  few : l.count ≤ l.b-index;
}
