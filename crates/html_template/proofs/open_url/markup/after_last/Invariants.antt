use Rattle.std.proofs.Common.{◌≡◌, ◌≤◌, false, length, drop}
use Rattle.std.specs.List.{list_any}
use Rattle.html_tokenizer.specs.UrlValues.{begins_url}
use Rattle.html_template.proofs.open_url.markup.after_last.Given as goal

abbrev pub invariant-bytes : goal.invariant-bytes
invariant-bytes l = record {
  none : list_any (begins_url l.is_listed l.place) (drop l.start l.markup) ≡ false;
  within : l.start ≤ length l.markup;
}

abbrev pub decreases-bytes : goal.decreases-bytes
decreases-bytes l = l.start
