use Rattle.std.proofs.Common.{length}
use Rattle.html_view.proofs.SourceNames.{InWord}
use Rattle.html_view.proofs.source.tag.are_words.Given as goal

abbrev pub invariant-bytes : goal.invariant-bytes
invariant-bytes l = InWord l.in_word l.bytes l.rest

abbrev pub decreases-bytes : goal.decreases-bytes
decreases-bytes l = length l.rest
