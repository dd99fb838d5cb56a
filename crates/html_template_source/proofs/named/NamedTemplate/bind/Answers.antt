use Rattle.std.proofs.Common.{Bor, List, ℕ, None, refl, sym, subst}
use Rattle.std.proofs.lemmas.List.{length-map}
use Rattle.html_template.specs.Templates.{texts_of}
use Rattle.html_template_source.specs.Bindings.{bindings_of}
use Rattle.html_template_source.specs.Names.{AreBelow}
use Rattle.html_template_source.proofs.Ordered.{placed_in_order, same_texts, sound_in_order}
use Rattle.html_template_source.proofs.named.NamedTemplate.bind.Goals as goal

pub returns-then-are_in_order-clause-texts : goal.returns-then-are_in_order-clause-texts
returns-then-are_in_order-clause-texts g c =
    let names = c.args.self.now.names in
    same_texts None (bindings_of c.args.bindings.now) names.distinct.items names.numbers.items c.deref.result.now c.deref.ensures.value
    (placed_in_order (bindings_of c.args.bindings.now) (texts_of names.distinct.items) (c.if-are_in_order.ensures.0 refl) names.single) names.below

pub returns-then-are_in_order-clause-faults : goal.returns-then-are_in_order-clause-faults
returns-then-are_in_order-clause-faults g c =
    let names = c.args.self.now.names in
    let B : ℕ → Type 0 = λ n. AreBelow n names.numbers.items in
    sound_in_order (bindings_of c.args.bindings.now) (texts_of names.distinct.items) names.numbers.items (c.if-are_in_order.ensures.0 refl) names.single names.used
    (subst B (sym (length-map names.distinct.items (λ (text : Bor (List ℕ)). text.now))) names.below)

pub returns-clause-texts : goal.returns-clause-texts
returns-clause-texts g c =
    let names = c.args.self.now.names in
    same_texts c.as_slice.result (bindings_of c.args.bindings.now) names.distinct.items names.numbers.items c.deref-2.result.now c.deref-2.ensures.value
    (c.in_ok-put_places.ensures.placed c.as_slice.result c.as_slice.ensures) names.below
