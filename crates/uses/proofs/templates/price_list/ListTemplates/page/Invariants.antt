use Rattle.std.proofs.Common.{[], ◌∷◌, ◌++◌, take}
use Rattle.std.specs.String.{string_bytes}
use Rattle.html_template.specs.Words.{IsPageOf}
use Rattle.uses.specs.Templates.PriceLists.{head_parts, row_texts, rows}
use Rattle.uses.proofs.templates.price_list.ListTemplates.page.Given as goal

abbrev pub invariant-loop-item : goal.invariant-loop-item
invariant-loop-item l =
    IsPageOf (head_parts ++ rows (take l.item-index l.items)) ((l.title ∷ []) ++ row_texts (take l.item-index l.items)) (string_bytes l.page)
