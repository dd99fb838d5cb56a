use Rattle.std.proofs.Common.{ℕ, ◌≡◌, ◌<◌, ◌≤◌, ◌-◌, ◌∙◌, true, false, Bool, not, refl, List, [], ◌∷◌, length, map, take, drop, get_or, sym, ap, arith}
use Rattle.std.specs.Borrow.{Bor}
use Rattle.html_template.specs.Templates.{texts_of}
use Rattle.html_template_source.specs.Bindings.{Binding, bindings_of}
use Rattle.std.proofs.lemmas.Bool.Decides.{Decides-eqb}
use Rattle.std.proofs.lemmas.List.{length-map}
use Rattle.html_template_source.proofs.Placed.{length-bindings}
use Rattle.html_template_source.proofs.Numbers.{equal_bytes, others_of, same_bytes}
use Rattle.html_template_source.proofs.names.Names.are_in_order.Goals as goal

-- where the first name is the same, and the others are, all are
same_from_first : (names : List (Bor (List ℕ))) (bindings : List (Bor (List ℕ) × Bor (List ℕ))) (name : Bor (List ℕ)) (binding : Bor (List ℕ) × Bor (List ℕ)) →
    1 ≤ length names → 1 ≤ length bindings → (get_or names 0 name).now ≡ (get_or bindings 0 binding).0.now →
    map (λ (b : Binding). b.name) (bindings_of (take (length bindings - 1) (drop 1 bindings))) ≡ texts_of (take (length names - 1) (drop 1 names)) →
    map (λ (b : Binding). b.name) (bindings_of bindings) ≡ texts_of names
same_from_first [] bindings name binding some any first others = absurd (omega arith)
same_from_first (n ∷ names) [] name binding some any first others = absurd (omega arith)
same_from_first (n ∷ names) (b ∷ bindings) name binding some any first others =
    let rest : map (λ (b : Binding). b.name) (bindings_of bindings) ≡ texts_of names =
    ap (λ x. map (λ (b : Binding). b.name) (bindings_of x)) (sym (others_of b bindings)) ∙ others ∙ ap texts_of (others_of n names) in
    ap (λ x. x ∷ map (λ (b : Binding). b.name) (bindings_of bindings)) (sym first) ∙ ap (λ x. n.now ∷ x) rest

not_false : (b : Bool) → false ≡ not b → b ≡ true
not_false true is = refl
not_false false is = absurd (cc)

-- and the other way round
others_same : (names : List (Bor (List ℕ))) (bindings : List (Bor (List ℕ) × Bor (List ℕ))) → 1 ≤ length names → 1 ≤ length bindings →
    map (λ (b : Binding). b.name) (bindings_of bindings) ≡ texts_of names →
    map (λ (b : Binding). b.name) (bindings_of (take (length bindings - 1) (drop 1 bindings))) ≡ texts_of (take (length names - 1) (drop 1 names))
others_same [] bindings some any whole = absurd (omega arith)
others_same (n ∷ names) [] some any whole = absurd (omega arith)
others_same (n ∷ names) (b ∷ bindings) some any whole =
    let rest : map (λ (b : Binding). b.name) (bindings_of bindings) ≡ texts_of names = cc in
    ap (λ x. map (λ (b : Binding). b.name) (bindings_of x)) (others_of b bindings) ∙ rest ∙ sym (ap texts_of (others_of n names))

-- then the first name is the same
first_same : (names : List (Bor (List ℕ))) (bindings : List (Bor (List ℕ) × Bor (List ℕ))) (name : Bor (List ℕ)) (binding : Bor (List ℕ) × Bor (List ℕ)) →
    1 ≤ length names → 1 ≤ length bindings → map (λ (b : Binding). b.name) (bindings_of bindings) ≡ texts_of names →
    (get_or names 0 name).now ≡ (get_or bindings 0 binding).0.now
first_same [] bindings name binding some any whole = absurd (omega arith)
first_same (n ∷ names) [] name binding some any whole = absurd (omega arith)
first_same (n ∷ names) (b ∷ bindings) name binding some any whole = cc

-- there are as many
as_many : (names : List (Bor (List ℕ))) (bindings : List (Bor (List ℕ) × Bor (List ℕ))) →
    map (λ (b : Binding). b.name) (bindings_of bindings) ≡ texts_of names → length bindings ≡ length names
as_many names bindings whole =
    sym (length-bindings bindings) ∙ sym (length-map (bindings_of bindings) (λ (b : Binding). b.name)) ∙ ap length whole
    ∙ length-map names (λ (text : Bor (List ℕ)). text.now)

pub names-preserved : goal.names-preserved
names-preserved g c = (
  λ same.
      c.names.invariant.0 (same_from_first c.names.rest.now c.names.left.now _ _ (omega arith) (omega arith)
      (same_bytes _ _ (not_false _ (sym c.if-ne.false ∙ c.ne.ensures))) same),
  λ whole. others_same c.names.rest.now c.names.left.now (omega arith) (omega arith) (c.names.invariant.1 whole),
)

none_left : (names : List (Bor (List ℕ))) (bindings : List (Bor (List ℕ) × Bor (List ℕ))) → length names < 1 → length bindings ≡ 0 →
    map (λ (b : Binding). b.name) (bindings_of bindings) ≡ texts_of names
none_left [] [] none empty = refl
none_left [] (b ∷ bindings) none empty = absurd (omega arith)
none_left (n ∷ names) bindings none empty = absurd (omega arith)

never : false ≡ true → ⊥
never is = cc

pub returns-then-ne : goal.returns-then-ne
returns-then-ne g c = (
  λ h. absurd (never h),
  λ whole. absurd (never (sym (sym c.if-ne.true ∙ c.ne.ensures
      ∙ ap not (equal_bytes _ _ (first_same c.names.rest.now c.names.left.now _ _ (omega arith) (omega arith) (c.names.invariant.1 whole)))))),
)

pub returns : goal.returns
returns g c = (
  λ h. c.names.invariant.0 (none_left c.names.rest.now c.names.left.now (omega arith) ((Decides-eqb (length c.names.left.now) 0).0 (sym c.is_empty.ensures ∙ h))),
  λ whole. c.is_empty.ensures ∙ (Decides-eqb (length c.names.left.now) 0).1
      (let many = as_many c.names.rest.now c.names.left.now (c.names.invariant.1 whole) in omega arith),
)
