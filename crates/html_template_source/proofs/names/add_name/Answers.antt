use Rattle.std.proofs.Common.{◌≡◌, ◌∙◌, ◌++◌, ◌∷◌, [], ℕ, sym, ap, subst, List, Bor, arith, length}
use Rattle.std.specs.Prelude.{None, Some}
use Rattle.std.proofs.lemmas.List.{length-map, map-append}
use Rattle.std.proofs.lemmas.Map.Text.{btree_map_updates_str}
use Rattle.html_template.specs.Templates.{texts_of}
use Rattle.html_template_source.specs.Bindings.{is_among}
use Rattle.html_template_source.specs.Names.{AreSingle, number_of}
use Rattle.html_template_source.proofs.Numbers.{among_after, among_still, indexed_after, numbered, single_after}
use Rattle.html_template_source.proofs.names.add_name.Goals as goal

pub returns-in-Some-clause-number : goal.returns-in-Some-clause-number
returns-in-Some-clause-number g c =
    let known : number_of c.args.name.now (texts_of c.args.distinct.now.items) ≡ Some c.in-Some.number =
    sym (c.requires.indexed c.args.name.now) ∙ sym c.get.ensures.value ∙ sym c.in-Some.ensures in
    omega (arith, (numbered c.args.name.now (texts_of c.args.distinct.now.items) c.in-Some.number known).0, length-map c.args.distinct.now.items (λ (text : Bor (List ℕ)). text.now))

pub returns-in-Some-clause-name : goal.returns-in-Some-clause-name
returns-in-Some-clause-name g c =
    let known : number_of c.args.name.now (texts_of c.args.distinct.now.items) ≡ Some c.in-Some.number =
    sym (c.requires.indexed c.args.name.now) ∙ sym c.get.ensures.value ∙ sym c.in-Some.ensures in
    (numbered c.args.name.now (texts_of c.args.distinct.now.items) c.in-Some.number known).1

pub returns-in-Ok-push-clause-single : goal.returns-in-Ok-push-clause-single
returns-in-Ok-push-clause-single g c =
    let none : number_of c.args.name.now (texts_of c.args.distinct.now.items) ≡ None =
    sym (c.requires.indexed c.args.name.now) ∙ sym c.get.ensures.value ∙ sym c.in_default.ensures in
    let longer : texts_of c.push.new.self.items ≡ texts_of c.args.distinct.now.items ++ c.args.name.now ∷ [] =
    ap texts_of c.in-Ok-push.ensures.items ∙ map-append (λ (text : Bor (List ℕ)). text.now) c.args.distinct.now.items (c.args.name ∷ []) in
    let P : List (List ℕ) → Type 0 = AreSingle in
    subst P (sym longer) (single_after (texts_of c.args.distinct.now.items) c.args.name.now c.requires.single none)

pub returns-in-Ok-push-clause-indexed : goal.returns-in-Ok-push-clause-indexed
returns-in-Ok-push-clause-indexed g c =
    let none : number_of c.args.name.now (texts_of c.args.distinct.now.items) ≡ None =
    sym (c.requires.indexed c.args.name.now) ∙ sym c.get.ensures.value ∙ sym c.in_default.ensures in
    let number : c.len-number.result ≡ length c.args.distinct.now.items = omega arith in
    indexed_after c.args.distinct.now.items c.push.new.self.items c.args.name c.len-number.result _ _ c.in-Ok-push.ensures.items number none
    c.requires.indexed (btree_map_updates_str c.args.name.now c.args.found.now c.insert.new.self _ c.in-Ok.ensures.updates)

pub returns-in-Some-clause-among : goal.returns-in-Some-clause-among
returns-in-Some-clause-among g c =
    let known : number_of c.args.name.now (texts_of c.args.distinct.now.items) ≡ Some c.in-Some.number =
    sym (c.requires.indexed c.args.name.now) ∙ sym c.get.ensures.value ∙ sym c.in-Some.ensures in
    λ other. among_still (texts_of c.args.distinct.now.items) c.args.name.now other c.in-Some.number known

pub returns-in-Ok-push-clause-among : goal.returns-in-Ok-push-clause-among
returns-in-Ok-push-clause-among g c =
    let longer : texts_of c.push.new.self.items ≡ texts_of c.args.distinct.now.items ++ c.args.name.now ∷ [] =
    ap texts_of c.in-Ok-push.ensures.items ∙ map-append (λ (text : Bor (List ℕ)). text.now) c.args.distinct.now.items (c.args.name ∷ []) in
    λ other. ap (is_among other) longer ∙ among_after (texts_of c.args.distinct.now.items) c.args.name.now other
