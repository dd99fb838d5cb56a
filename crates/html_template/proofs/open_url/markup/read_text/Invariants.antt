use Rattle.std.proofs.Common.{length}
use Rattle.html_template.specs.OpenUrls.UrlTexts.{IsRead}
use Rattle.html_template.proofs.open_url.markup.read_text.Given as goal

abbrev pub invariant-bytes : goal.invariant-bytes
invariant-bytes g l = IsRead l.is_ended l.read.ampersand l.read.text.items l.rest l.markup

abbrev pub decreases-bytes : goal.decreases-bytes
decreases-bytes g l = length l.rest
