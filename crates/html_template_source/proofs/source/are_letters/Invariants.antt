use Rattle.std.proofs.Common.{◌≡◌, length}
use Rattle.html_template_source.specs.Sources.{are_letters}
use Rattle.html_template_source.proofs.source.are_letters.Given as goal

abbrev pub invariant-bytes : goal.invariant-bytes
invariant-bytes l = are_letters l.rest ≡ are_letters l.bytes

abbrev pub decreases-bytes : goal.decreases-bytes
decreases-bytes l = length l.rest
