use Rattle.std.proofs.Common.{◌==◌, ◌≡◌, ◌∷◌, ◌∙◌, ℕ, false, sym, ap, arith, ne_eqb, codes}
use Rattle.hesc_specs.specs.Text.Words.{begins}
use Rattle.hesc_grammars.proofs.NamedReferences.{begins_is, reference-less_than, reference-greater_than, reference-ampersand, reference-double_quote, reference-no_break_space, reference-other}
use Rattle.hesc_grammars.proofs.references.reference.Goals as goal

pub returns-in-108 : goal.returns-in-108
returns-in-108 c =
    let whole : c.args.bytes.now ≡ 108 ∷ c.in-Some.rest.now =
    c.in-Some.ensures.cases.0 ∙ ap (λ first. first ∷ c.in-Some.rest.now) c.in-108.is in
    rw whole (c.named_reference.ensures ∙ sym (reference-less_than c.in-Some.rest.now))

pub returns-in-103 : goal.returns-in-103
returns-in-103 c =
    let whole : c.args.bytes.now ≡ 103 ∷ c.in-Some.rest.now =
    c.in-Some.ensures.cases.0 ∙ ap (λ first. first ∷ c.in-Some.rest.now) c.in-103.is in
    rw whole (c.named_reference-in-103.ensures ∙ sym (reference-greater_than c.in-Some.rest.now))

pub returns-in-97-2 : goal.returns-in-97-2
returns-in-97-2 c =
    let rest = c.in-Some.rest.now in
    let whole : c.args.bytes.now ≡ 97 ∷ rest =
    c.in-Some.ensures.cases.0 ∙ ap (λ first. first ∷ rest) c.in-97.is in
    let differs : begins (codes "mp;") rest ≡ false =
    sym (begins_is (codes "mp;") rest) ∙ sym c.starts_with.ensures.value ∙ c.if-starts_with.false in
    rw whole (c.named_reference-in-97-2.ensures ∙ sym (rw differs at (reference-ampersand rest)))

pub returns-in-113 : goal.returns-in-113
returns-in-113 c =
    let whole : c.args.bytes.now ≡ 113 ∷ c.in-Some.rest.now =
    c.in-Some.ensures.cases.0 ∙ ap (λ first. first ∷ c.in-Some.rest.now) c.in-113.is in
    rw whole (c.named_reference-in-113.ensures ∙ sym (reference-double_quote c.in-Some.rest.now))

pub returns-in-110 : goal.returns-in-110
returns-in-110 c =
    let whole : c.args.bytes.now ≡ 110 ∷ c.in-Some.rest.now =
    c.in-Some.ensures.cases.0 ∙ ap (λ first. first ∷ c.in-Some.rest.now) c.in-110.is in
    rw whole (c.named_reference-in-110.ensures ∙ sym (reference-no_break_space c.in-Some.rest.now))

pub returns-in-35 : goal.returns-in-35
returns-in-35 c =
    let whole : c.args.bytes.now ≡ 35 ∷ c.in-Some.rest.now =
    c.in-Some.ensures.cases.0 ∙ ap (λ first. first ∷ c.in-Some.rest.now) c.in-35.is in
    rw whole c.number_reference.ensures

pub returns-in_default-first : goal.returns-in_default-first
returns-in_default-first c =
    let first = c.in-Some.first.now in
    let none : (n : ℕ) → (first ≡ n → ⊥) → (first == n) ≡ false = ne_eqb first in
    rw c.in-Some.ensures.cases.0 (sym (reference-other first c.in-Some.rest.now
    (none 35 (λ e. omega arith)) (none 97 (λ e. omega arith)) (none 103 (λ e. omega arith))
    (none 108 (λ e. omega arith)) (none 110 (λ e. omega arith)) (none 113 (λ e. omega arith))))
