use Rattle.std.proofs.Common.{ℕ, List, [], arith, take_all}
use Rattle.std.specs.Borrow.{Bor}
use Rattle.std.proofs.lemmas.List.{take_more}
use Rattle.std.proofs.lemmas.List.Concat.{flat_map-append}
use Rattle.uses.specs.Templates.PriceLists.{item_texts, row_parts}
use Rattle.uses.proofs.templates.price_list.ListTemplates.page.Goals as goal

-- of an item past the end, which is none
abbrev nothing : Bor (List ℕ)
nothing = record { ref_ptr = (0, 0); now = [] }

pub loop-item-preserved : goal.loop-item-preserved
loop-item-preserved c =
    rw (
      take_more c.args.items.now c.loop-item.item-index (record { name = nothing; price = nothing }) c.loop-item-test.true,
      flat_map-append (λ item. row_parts) _ _,
      flat_map-append item_texts _ _,
    ) (rw c.args.self.now.row_is at c.in_ok-append-2.ensures.joins _ _ c.loop-item.invariant)

pub returns : goal.returns
returns c =
    let rows = rw (take_all c.loop-item.item-index c.args.items.now (omega arith)) at c.loop-item.invariant in
    rw c.args.self.now.foot_is at c.in_ok-append-3.ensures.joins _ _ rows
