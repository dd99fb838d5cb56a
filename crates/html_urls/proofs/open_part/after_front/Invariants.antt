use Rattle.std.proofs.Common.{◌≡◌, length}
use Rattle.html_urls.specs.OpenParts.{after_front}
use Rattle.html_urls.proofs.open_part.after_front.Given as goal

abbrev pub invariant-bytes : goal.invariant-bytes
invariant-bytes l = after_front l.part l.rest ≡ after_front l.fn.part l.markup

abbrev pub decreases-bytes : goal.decreases-bytes
decreases-bytes l = length l.rest
