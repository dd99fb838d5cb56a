use Rattle.std.proofs.Common.{ap, ◌∙◌, ◌++◌, ◌∷◌, []}
use Rattle.html_template.specs.declared.parts.Part.TheVariants as part
use Rattle.html_template_source.proofs.SourceParts.{slot_more}
use Rattle.html_template_source.proofs.source.add_slot.Goals as goal

pub returns-in-Ok : goal.returns-in-Ok
returns-in-Ok g c =
    let longer = c.in_ok-push-2.ensures.items ∙ ap (λ x. x ++ part.Slot ∷ []) c.in_ok-push.ensures.items in
    slot_more c.args.parts.now.items c.args.names.now.items c.args.markup c.args.name longer c.in-Ok.ensures.items c.requires.plain c.requires.named
