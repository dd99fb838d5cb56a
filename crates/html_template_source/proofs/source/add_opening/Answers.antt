use Rattle.html_template_source.proofs.SourceParts.{opening_boundary, opening_more, opening_taken}
use Rattle.html_template_source.proofs.source.add_opening.Goals as goal

pub range-requires-clause-end_boundary : goal.range-requires-clause-end_boundary
range-requires-clause-end_boundary g c = opening_boundary c.args.text.now c.args.markup.now c.args.following.now c.requires.whole c.utf8.following

pub returns-in-Ok : goal.returns-in-Ok
returns-in-Ok g c = λ names.
    opening_more c.args.parts.now.items names c.args.markup.now c.range.result c.in-Ok.ensures.items
    (opening_taken c.args.text.now c.args.markup.now c.args.following.now c.range.result.now c.requires.whole c.range.ensures.value) c.requires.plain
