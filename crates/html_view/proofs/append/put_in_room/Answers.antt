use Rattle.std.proofs.Common.{◌∙◌, [], IsUtf8, ap, subst, sym}
use Rattle.std.specs.Prelude.{unwrap_or, vec_items}
use Rattle.std.proofs.lemmas.Str.{IsUtf8-append}
use Rattle.html_view.proofs.append.put_in_room.Goals as goal

pub returns-in-Ok-clause-utf8 : goal.returns-in-Ok-clause-utf8
returns-in-Ok-clause-utf8 g c = λ before.
    let same = sym (c.into_output-output.ensures.same_reference ∙ c.put_nodes-outcome.ensures.same_reference ∙ c.new-sink.ensures.same_reference) in
    let start = ap (λ b. unwrap_or b []) c.put_nodes-outcome.ensures.same_before ∙ c.new-sink.ensures.start in
    let items = ap vec_items (c.output-1.given.1 same) ∙ c.into_output-output.ensures.items in
    subst IsUtf8 (sym items) (IsUtf8-append _ _ (subst IsUtf8 (sym start) before) c.into_output-output.ensures.utf8)
