use Rattle.std.proofs.Common.{sym, ap, Some, ◌∙◌, arith}
use Rattle.html_tokenizer.proofs.ShortNames.{link_content, short_content}
use Rattle.html_tokenizer.proofs.elements.content_of.Goals as goal

pub returns-in-Normal : goal.returns-in-Normal
returns-in-Normal c =
    let is = sym c.is_a_or_q.ensures ∙ c.if-is_a_or_q.true in
    ap (λ x. Some x) c.with_element.ensures ∙ sym (link_content c.args.content c.args.name.now c.in-Normal.is is)

pub returns-in-Normal-2 : goal.returns-in-Normal-2
returns-in-Normal-2 c =
    let other = sym c.is_a_or_q.ensures ∙ c.if-is_a_or_q.false in
    ap (λ x. Some x) c.with_element-in-Normal-2.ensures
    ∙ sym (short_content c.args.content c.args.name.now c.in-Normal.is other (omega arith))
