use Rattle.std.proofs.Common.{◌∷◌, ◌∙◌, ap}
use Rattle.html_view.specs.Data.{item, item_stacks, list_stacks}
use Rattle.html_view.specs.Values.{datum_of, items_in, stack_of}
use Rattle.html_view.proofs.unroll.stand_of_list.Goals as goal

pub returns-in-Each : goal.returns-in-Each
returns-in-Each c =
    let stack = stack_of c.args.around.now in
    let is = ap (λ t. list_stacks t (items_in c.args.items) stack) c.in-Each.is in (
      c.in-Each.is,
      datum_of c.in-Some.first ∷ stack,
      item_stacks (items_in c.in-Some.others) stack,
      is ∙ ap (λ i. item_stacks i stack) c.in-Some.ensures.some,
      is,
    )

pub returns-in-Some-take_first : goal.returns-in-Some-take_first
returns-in-Some-take_first c =
    let stack = stack_of c.args.around.now in
    let items = c.in-Some.ensures.some ∙ ap (item (datum_of c.in-Some.first)) c.in-Some-take_first.ensures.some in (
      c.in-Once.is,
      datum_of c.in-Some.first ∷ stack,
      datum_of c.in-Some-take_first.field-0.0 ∷ stack,
      item_stacks (items_in c.in-Some-take_first.field-0.1) stack,
      ap (λ t. list_stacks t (items_in c.args.items) stack) c.in-Once.is ∙ ap (λ i. item_stacks i stack) items,
    )
