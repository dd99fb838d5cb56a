use Rattle.std.proofs.Common.{rules, ◌≤◌, ◌+◌, List, length, subst, refl, sym, ◌∙◌, arith}
use Rattle.html_tokenizer.specs.Tokenizer.Phases.{tokenizer_of}
use Rattle.html_view.specs.Kept.{asked_nodes}
use Rattle.html_view.specs.Spelled.{Spells}
use Rattle.html_view.proofs.Spelling.{if_ok, spells_all, spells_attributes, spells_more, spells_section, spells_start}
use Rattle.html_view.proofs.spelled.+spell.Goals as goal

pub spell-loop-node-init : goal.spell-loop-node-init
spell-loop-node-init g t c =
    spells_start c.args.nodes.now.items c.in_ok-spelled.spelled.items (tokenizer_of c.args.reader.now) (tokenizer_of c.args.reader.now)
    c.in_ok-spelled.ensures.items refl

pub spell-loop-node-preserved : goal.spell-loop-node-preserved
spell-loop-node-preserved g t c =
    spells_more c.deref-node-items.result.now c.args.nodes.now.items c.loop-node.node-index (c.loop-node.node-index + 1) c.node-item.result
    c.loop-node.spelled.items c.push.new.self.items c.in_ok-made.made (tokenizer_of c.args.reader.now) (tokenizer_of c.loop-node.reader)
    (tokenizer_of c.spell_node.new.reader) c.deref-node-items.ensures.value (omega arith) (omega arith) c.node-item.is (search rules)
    c.loop-node.invariant c.in_ok-made.ensures

pub spell-returns : goal.spell-returns
spell-returns g t c =
    spells_all c.args.nodes.now.items c.loop-node.node-index c.loop-node.spelled.items (tokenizer_of c.args.reader.now) (tokenizer_of c.loop-node.reader)
    (subst (λ (n : List _). length n ≤ c.loop-node.node-index) c.deref-node-items.ensures.value c.loop-node-test.false) c.loop-node.invariant

pub spell_node-returns-then-is_between_attributes : goal.spell_node-returns-then-is_between_attributes
spell_node-returns-then-is_between_attributes g t c =
    if_ok c.attributes.result _ _ c.attributes.ensures
    (λ made written. spells_attributes c.args.node.now made c.in-Slot.slot (tokenizer_of c.args.reader.now) c.in-Slot.is
    (sym c.is_between_attributes.ensures ∙ c.if-is_between_attributes.true) written)

pub spell_node-returns-in_ok-otherwise-in-Section : goal.spell_node-returns-in_ok-otherwise-in-Section
spell_node-returns-in_ok-otherwise-in-Section g t c =
    spells_section c.args.node.now c.in-Section.opening c.in-Section.body c.in-Section.otherwise c.in_ok-body-in-Section.body
    c.in_ok-otherwise-in-Section.otherwise (tokenizer_of c.args.reader.now) (tokenizer_of c.spell.new.reader) (tokenizer_of c.spell-in-Section.new.reader)
    c.in-Section.is c.in_ok-body-in-Section.ensures
    (subst (λ t. Spells (asked_nodes c.in-Section.otherwise.items) (asked_nodes c.in_ok-otherwise-in-Section.otherwise.items) t (tokenizer_of c.spell-in-Section.new.reader))
    c.in_ok-before-in-Section.ensures c.in_ok-otherwise-in-Section.ensures)
