use Rattle.std.proofs.Common.{◌≡◌, ◌+◌, length, map}
use Rattle.html_template.specs.Templates.{chunk_of, page}
use Rattle.html_template.proofs.page.page_length.Given as goal

-- what was counted, and the length of the page of the rest, are the length of the page
abbrev pub invariant-pieces : goal.invariant-pieces
invariant-pieces g l =
    l.count + length (page (map chunk_of l.rest) (g.T.Texts.list l.left)) ≡ length (page (map chunk_of l.pieces) (g.T.Texts.list l.texts))

abbrev pub decreases-pieces : goal.decreases-pieces
decreases-pieces g l = length l.rest
