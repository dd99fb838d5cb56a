use Rattle.std.proofs.Common.{◌≡◌, ◌∙◌, Bor, List, ℕ, length, sym, ap, subst, arith}
use Rattle.std.proofs.lemmas.List.{length-map}
use Rattle.html_template.specs.FirstFault.{first_fault}
use Rattle.html_template.specs.Templates.{texts_of}
use Rattle.html_template_source.specs.Bindings.{bindings_of, slot_told}
use Rattle.html_template_source.specs.Names.{AreBelow}
use Rattle.html_template_source.specs.Places.{unplaced}
use Rattle.html_template_source.specs.SlotNames.{slot_names}
use Rattle.html_template_source.proofs.FirstFaults.{told_early, told_late}
use Rattle.html_template_source.proofs.Placed.{length-bindings, unplaced_are}
use Rattle.html_template_source.proofs.first_fault.find_fault.Goals as goal

pub returns-in-Some-clause-fault : goal.returns-in-Some-clause-fault
returns-in-Some-clause-fault g c =
    told_early (texts_of c.args.names.now.distinct.items) (slot_names c.args.names.now) (bindings_of c.args.bindings.now) c.place_bindings.result c.in-Some.fault
    c.args.names.now.used c.place_bindings.ensures.fault c.in-Some.is

pub returns-in-None-clause-fault : goal.returns-in-None-clause-fault
returns-in-None-clause-fault g c =
    let names = c.args.names.now in
    let bindings = bindings_of c.args.bindings.now in
    let places = c.place_bindings.new.places in
    let long : length (texts_of names.distinct.items) ≡ length names.distinct.items = length-map names.distinct.items (λ (text : Bor (List ℕ)). text.now) in
    let B : ℕ → Type 0 = λ n. AreBelow n names.numbers.items in
    let slots : unplaced (length bindings) places names.numbers.items ≡ _ =
    unplaced_are (texts_of names.distinct.items) bindings places names.numbers.items (omega (arith, long)) (subst B (sym long) names.below)
    (λ k within. c.place_bindings.ensures.placed k (omega (arith, long))) in
    told_late (texts_of names.distinct.items) (slot_names names) bindings c.place_bindings.result c.first_unbound.result names.used c.place_bindings.ensures.fault c.in-None.is
    (c.first_unbound.ensures
    ∙ ap (λ numbers. first_fault slot_told (unplaced (length c.args.bindings.now) places numbers)) c.deref.ensures.value
    ∙ ap (λ n. first_fault slot_told (unplaced n places names.numbers.items)) (sym (length-bindings c.args.bindings.now))
    ∙ ap (first_fault slot_told) slots)
