use Rattle.std.proofs.Common.{[], ◌∷◌, ◌++◌, ap, ◌∙◌}
use Rattle.html_view.proofs.SourceReads.{asked_pushed}
use Rattle.html_view.proofs.source.sections.add.Goals as goal

pub returns-clause-nodes : goal.returns-clause-nodes
returns-clause-nodes g c =
    λ after. asked_pushed c.args.nodes.now.items c.push.new.self.items c.args.node after
    (c.in-Ok.ensures.items ∙ ap (λ nodes. nodes ++ c.args.node ∷ []) c.begin.ensures.same)
