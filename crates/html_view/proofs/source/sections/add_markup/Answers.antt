use Rattle.std.proofs.Common.{sym, ap, ◌∙◌}
use Rattle.html_view.specs.Kept.{asked_nodes}
use Rattle.html_view.proofs.Followed.{asked_markup}
use Rattle.html_view.proofs.SourceReads.{marked_some, on_ok}
use Rattle.html_view.proofs.source.sections.add_markup.Goals as goal

pub returns-clause-nodes : goal.returns-clause-nodes
returns-clause-nodes g c =
    on_ok c.add.result _ _ c.add.ensures.nodes
    (λ added after. added after
    ∙ ap (asked_nodes c.args.nodes.now.items)
    (asked_markup _ c.args.piece.markup c.args.piece.position after ∙ marked_some c.args.piece.markup.now after (sym c.is_empty.ensures ∙ c.if-is_empty.false)))
