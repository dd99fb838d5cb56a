use Rattle.std.proofs.Common.{◌∙◌, ap}
use Rattle.html_view.specs.Attributes.{value_of}
use Rattle.html_view.specs.Nodes as node
use Rattle.html_view.proofs.Followed.{asked_markup}
use Rattle.html_view.proofs.SourceReads.{none_before}
use Rattle.html_view.proofs.Spelling.{section_written}
use Rattle.html_view.proofs.spelled.attribute.Goals as goal

pub returns : goal.returns
returns g c = λ rest.
    section_written (record { name = c.args.row.member; position = c.args.position; times = c.args.times }) c.add-2.new.nodes c.new.result _ rest
    c.requires c.new.ensures.items
    (c.in_ok-add-2.ensures.nodes node.End
    ∙ c.in_ok-add_value.ensures _
    ∙ c.in_ok-add.ensures.nodes _
    ∙ none_before c.new-body.result.items _ c.new-body.ensures.items
    ∙ asked_markup _ _ _ _
    ∙ ap (λ n. node.Markup c.args.row.markup.now (value_of c.args.times c.args.position n)) (asked_markup _ _ _ node.End))
