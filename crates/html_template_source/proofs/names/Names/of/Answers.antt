use Rattle.std.proofs.Common.{◌≡◌, ◌++◌, ◌∷◌, [], ◌∙◌, ℕ, List, ap, sym, subst, append_assoc, drop, take, ◌-◌, map, arith, length}
use Rattle.std.proofs.lemmas.List.{length-map}
use Rattle.std.specs.Borrow.{Bor}
use Rattle.html_template.specs.Templates.{texts_of}
use Rattle.html_template_source.specs.Names.{AreBelow, AreUsed, name_at}
use Rattle.html_template_source.proofs.Numbers.{below_after, first_and_others, named_after, used_after}
use Rattle.html_template_source.proofs.names.Names.of.Goals as goal

pub slots-preserved : goal.slots-preserved
slots-preserved g c =
    let names = c.slots.distinct.items in
    let more = c.take_name.new.distinct.items in
    let long : length (texts_of names) ≡ length names = length-map names (λ (text : Bor (List ℕ)). text.now) in
    let B : ℕ → Type 0 = λ n. AreBelow n c.slots.numbers.items in
    let slots : map (name_at (texts_of more)) (c.slots.numbers.items ++ c.in_ok-number.number ∷ []) ≡ map (name_at (texts_of names)) c.slots.numbers.items ++ _ ∷ [] =
    named_after (texts_of names) (texts_of more) c.slots.numbers.items c.in_ok-number.number _ (subst B (sym long) c.slots.invariant.below)
    (λ k within. c.in_ok-number.ensures.same k (omega arith)) c.in_ok-number.ensures.name in
    let U : List ℕ → Type 0 = AreUsed (texts_of more) in
    let L : List ℕ → Type 0 = AreBelow (length more) in
    record {
      single = c.in_ok-number.ensures.single;
      indexed = c.in_ok-number.ensures.indexed;
      below = subst L (sym c.in_ok-push.ensures.items)
          (below_after (length names) (length more) c.slots.numbers.items c.in_ok-number.number c.slots.invariant.below c.in_ok-number.ensures.longer c.in_ok-number.ensures.number);
      used = subst U (sym c.in_ok-push.ensures.items)
          (used_after (texts_of names) (texts_of more) c.slots.numbers.items c.in_ok-number.number _ c.slots.invariant.used slots c.in_ok-number.ensures.among);
      named = ap (λ x. map (name_at (texts_of more)) x ++ texts_of (take (length c.slots.rest.now - 1) (drop 1 c.slots.rest.now))) c.in_ok-push.ensures.items
          ∙ ap (λ x. x ++ texts_of (take (length c.slots.rest.now - 1) (drop 1 c.slots.rest.now)))
          slots
          ∙ append_assoc (map (name_at (texts_of names)) c.slots.numbers.items) _ _
          ∙ ap (λ x. map (name_at (texts_of names)) c.slots.numbers.items ++ x) (sym (first_and_others c.slots.rest.now _ c.in-len1-up.len_at_least))
          ∙ c.slots.invariant.named;
    }
