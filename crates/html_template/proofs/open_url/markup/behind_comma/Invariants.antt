use Rattle.std.proofs.Common.{◌≡◌, length}
use Rattle.html_template.specs.OpenUrls.{behind_comma}
use Rattle.html_template.proofs.open_url.markup.behind_comma.Given as goal

abbrev pub invariant-commas : goal.invariant-commas
invariant-commas l = behind_comma l.place l.rest ≡ behind_comma l.place l.markup

abbrev pub decreases-commas : goal.decreases-commas
decreases-commas l = length l.rest
