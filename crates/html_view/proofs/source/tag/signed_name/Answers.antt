use Rattle.html_view.proofs.SourceTags.{is_tag}
use Rattle.html_view.proofs.source.tag.signed_name.Goals as goal

pub returns-then-may_have-clause-tag : goal.returns-then-may_have-clause-tag
returns-then-may_have-clause-tag c =
    is_tag c.in_ok-found.found.sign c.trim-name.result.now c.args.inside.now c.trim_start.result.now c.in_ok-found.found.name.now
    c.trim_start.ensures.value c.in_ok-found.ensures.parts c.trim-name.ensures.value (c.may_have.ensures c.if-may_have.true)
