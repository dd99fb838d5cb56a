use Rattle.std.proofs.Common.{◌≡◌, ◌+◌, ◌-◌, ◌≤◌, length}
use Rattle.std.specs.List.{position_or_len}
use Rattle.html_tokenizer.specs.UrlValues.{closes_url}
use Rattle.html_template.proofs.open_url.markup.url_length.Given as goal

abbrev pub invariant-bytes : goal.invariant-bytes
invariant-bytes l = record {
  first : (length l.markup - length l.rest) + position_or_len (closes_url l.is_listed l.place) l.rest ≡ position_or_len (closes_url l.is_listed l.place) l.markup;
  shorter : length l.rest ≤ length l.markup;
}

abbrev pub decreases-bytes : goal.decreases-bytes
decreases-bytes l = length l.rest
