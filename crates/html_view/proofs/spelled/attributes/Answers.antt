use Rattle.std.proofs.Common.{rules, ◌∙◌, ◌≢◌}
use Rattle.html_view.specs.Attributes.{flag_names, text_names}
use Rattle.html_view.specs.Nodes as node
use Rattle.html_view.specs.declared.node.Times.TheVariants.{Attributes, Once}
use Rattle.html_view.proofs.SourceReads.{none_before}
use Rattle.html_view.proofs.Spelling.{section_written}
use Rattle.html_view.proofs.spelled.attributes.Goals as goal

pub returns : goal.returns
unfolding text_names flag_names
returns g c = λ rest.
    let other : Attributes ≢ Once = search rules in
    section_written (record { name = c.args.slot.name; position = c.args.slot.position; times = Attributes }) c.add_all-2.new.nodes c.new.result _ rest
    other c.new.ensures.items
    (c.in_ok-add_all-2.ensures node.End
    ∙ c.in_ok-add_all.ensures _
    ∙ none_before c.new-body.result.items _ c.new-body.ensures.items)
