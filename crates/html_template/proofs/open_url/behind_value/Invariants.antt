use Rattle.std.proofs.Common.{◌≡◌, length}
use Rattle.html_template.specs.OpenUrls.{behind_value}
use Rattle.html_template.proofs.open_url.behind_value.Given as goal

abbrev pub invariant-bytes : goal.invariant-bytes
invariant-bytes l = behind_value l.place l.rest ≡ behind_value l.place l.markup

abbrev pub decreases-bytes : goal.decreases-bytes
decreases-bytes l = length l.rest
