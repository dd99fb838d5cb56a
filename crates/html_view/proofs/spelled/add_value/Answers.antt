use Rattle.std.proofs.Common.{◌∙◌, ap}
use Rattle.html_view.specs.Kept.{asked_nodes}
use Rattle.html_view.proofs.Followed.{asked_slot}
use Rattle.html_view.proofs.SourceReads.{on_ok}
use Rattle.html_view.proofs.spelled.add_value.Goals as goal

pub returns-in-Given : goal.returns-in-Given
returns-in-Given g c =
    on_ok c.add.result _ _ c.add.ensures.nodes
    (λ added rest. rw c.in-Given.is (added rest ∙ ap (asked_nodes c.args.nodes.now.items) (asked_slot _ _ rest)))
