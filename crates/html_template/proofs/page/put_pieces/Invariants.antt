use Rattle.std.proofs.Common.{length, map}
use Rattle.hesc_sinks.proofs.Took.{Progress}
use Rattle.html_template.specs.Templates.{chunk_of, page}
use Rattle.html_template.proofs.page.put_pieces.Given as goal

abbrev pub invariant-pieces : goal.invariant-pieces
invariant-pieces g l = Progress (g.S.Sink.seen l.initial.sink) (g.S.Sink.seen l.sink) (page (map chunk_of l.rest) (g.T.Texts.list l.left)) (page (map chunk_of l.pieces) (g.T.Texts.list l.texts))

abbrev pub decreases-pieces : goal.decreases-pieces
decreases-pieces g l = length l.rest
