use Rattle.std.proofs.Common.{◌≡◌, length}
use Rattle.html_urls.specs.OpenParts.{after_markup}
use Rattle.html_urls.proofs.open_part.after_markup.Given as goal

abbrev pub invariant-bytes : goal.invariant-bytes
invariant-bytes l = after_markup l.part l.rest ≡ after_markup l.fn.part l.markup

abbrev pub decreases-bytes : goal.decreases-bytes
decreases-bytes l = length l.rest
