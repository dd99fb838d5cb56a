use Rattle.std.proofs.Common.{take}
use Rattle.std.specs.String.{string_bytes}
use Rattle.html_template.specs.Words.{IsPageOf}
use Rattle.uses.specs.Templates.LinkLists.{link_texts, links}
use Rattle.uses.proofs.templates.link_list.LinkList.page.Given as goal

abbrev pub invariant-loop-item : goal.invariant-loop-item
invariant-loop-item l =
    IsPageOf (links (take l.item-index l.found)) (link_texts l.query (take l.item-index l.found)) (string_bytes l.page)
