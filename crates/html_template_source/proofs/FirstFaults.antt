-- The first fault of bindings and slots.
use Rattle.std.proofs.Common.{ℕ, ◌≡◌, ◌≤◌, ◌+◌, ◌-◌, Bool, List, [], ◌∷◌, Option, Some, None, Err, length, get_or, take, drop, map, refl, sym, ap, ◌∙◌, bytes_eq, true, false, arith}
use Rattle.std.proofs.lemmas.Bool.Decides.{nat_tests}
use Rattle.std.specs.Option.{is_some, option_or, unwrap_or}
use Rattle.html_template.proofs.FirstFault.{some_first}
use Rattle.html_template.specs.FirstFault.{first_fault, first_from}
use Rattle.html_template.specs.FillFaults.{AnswersFill, fill_fault}
use Rattle.html_template.specs.Templates.{Chunk}
use Rattle.html_template.specs.declared.faults.FillFault.{FillFault}
use Rattle.html_template.specs.declared.faults.WriteFault.TheVariants.{Texts}
use Rattle.html_template_source.specs.Bindings.{AnswersBind, AnswersBinding, AnswersEarly, Binding, bind_fault, binding_fault, binding_faults, binding_told, bindings_of, bound, early_fault, is_among, of_fill, slot_faults, slot_told, text_of}
use Rattle.html_template_source.specs.declared.faults.BindFault.{BindFault}
use Rattle.html_template_source.specs.declared.faults.BindFault.TheVariants.{Unknown, Doubled, Memory}
use Rattle.html_template_source.proofs.Numbers.{bytes_eq-sym, has_number, others_of}
use Rattle.html_template_source.specs.Names.{number_of}
use Rattle.std.specs.Borrow.{Bor}

-- a name has a text where it is among the names of the bindings
pub bound_among : (bindings : List Binding) (name : List ℕ) → is_some (bound bindings name) ≡ is_among name (map (λ (b : Binding). b.name) bindings)
bound_among [] name = refl
bound_among (b ∷ bindings) name = grind (arith, nat_tests, bound_among bindings name, bytes_eq, bytes_eq-sym)

-- the faults depend on which names are known, and not on their order
pub same_known : (names others : List (List ℕ)) (bindings : List Binding) → ((name : List ℕ) → is_among name names ≡ is_among name others) →
    binding_faults names bindings ≡ binding_faults others bindings
same_known names others [] same = refl
same_known names others (b ∷ bindings) same =
    let here : is_among b.name names ≡ is_among b.name others = same b.name in
    rw here (ap (λ faults. binding_fault others b bindings ∷ faults) (same_known names others bindings same))

-- ---- found one after the other

pub told_early : (names slots : List (List ℕ)) (bindings : List Binding) (first : Option BindFault) (fault : BindFault) →
    ((name : List ℕ) → is_among name names ≡ is_among name slots) → first ≡ first_fault binding_told (binding_faults names bindings) → first ≡ Some fault →
    Some fault ≡ early_fault bindings slots
told_early names slots bindings first fault known is some = grind (arith, nat_tests, same_known)

pub told_late : (names slots : List (List ℕ)) (bindings : List Binding) (first second : Option BindFault) →
    ((name : List ℕ) → is_among name names ≡ is_among name slots) → first ≡ first_fault binding_told (binding_faults names bindings) → first ≡ None →
    second ≡ first_fault slot_told (slot_faults bindings slots) → second ≡ early_fault bindings slots
told_late names slots bindings first second known is none second_is = grind (arith, nat_tests, same_known)

-- ---- one binding after the other

known_is : (names : List (List ℕ)) (name : List ℕ) (known : Bool) → is_some (number_of name names) ≡ known → is_among name names ≡ known
known_is names name known is = sym (has_number name names) ∙ is

pub unknown_here : (names : List (List ℕ)) (rest : List (Bor (List ℕ) × Bor (List ℕ))) (first : Bor (List ℕ) × Bor (List ℕ)) (n : ℕ) (all : Option BindFault) →
    1 ≤ length rest → is_some (number_of (get_or rest 0 first).0.now names) ≡ false →
    first_from binding_told n (binding_faults names (bindings_of rest)) ≡ all → Some (Unknown n) ≡ all
unknown_here names [] first n all some none is = absurd (omega arith)
unknown_here names (b ∷ rest) first n all some none is =
    rw (known_is names b.0.now false none) at is

pub doubled_here : (names : List (List ℕ)) (rest : List (Bor (List ℕ) × Bor (List ℕ))) (first : Bor (List ℕ) × Bor (List ℕ)) (n : ℕ) (all : Option BindFault) →
    1 ≤ length rest → is_some (number_of (get_or rest 0 first).0.now names) ≡ true →
    is_some (bound (bindings_of (take (length rest - 1) (drop 1 rest))) (get_or rest 0 first).0.now) ≡ true →
    first_from binding_told n (binding_faults names (bindings_of rest)) ≡ all → Some (Doubled n) ≡ all
doubled_here names [] first n all some known again is = absurd (omega arith)
doubled_here names (b ∷ rest) first n all some known again is =
    let later : is_some (bound (bindings_of rest) b.0.now) ≡ true = ap (λ x. is_some (bound (bindings_of x) b.0.now)) (sym (others_of b rest)) ∙ again in
    rw (known_is names b.0.now true known, later) at is

pub sound_here : (names : List (List ℕ)) (rest : List (Bor (List ℕ) × Bor (List ℕ))) (first : Bor (List ℕ) × Bor (List ℕ)) (n m : ℕ) (all : Option BindFault) →
    1 ≤ length rest → is_some (number_of (get_or rest 0 first).0.now names) ≡ true →
    is_some (bound (bindings_of (take (length rest - 1) (drop 1 rest))) (get_or rest 0 first).0.now) ≡ false → m ≡ n + 1 →
    first_from binding_told n (binding_faults names (bindings_of rest)) ≡ all →
    first_from binding_told m (binding_faults names (bindings_of (take (length rest - 1) (drop 1 rest)))) ≡ all
sound_here names [] first n m all some known again next is = absurd (omega arith)
sound_here names (b ∷ rest) first n m all some known again next is =
    let later : is_some (bound (bindings_of rest) b.0.now) ≡ false = ap (λ x. is_some (bound (bindings_of x) b.0.now)) (sym (others_of b rest)) ∙ again in
    let here : first_from binding_told (n + 1) (binding_faults names (bindings_of rest)) ≡ all = rw (known_is names b.0.now true known, later) at is in
    ap (λ x. first_from binding_told m (binding_faults names (bindings_of x))) (others_of b rest)
    ∙ ap (λ k. first_from binding_told k (binding_faults names (bindings_of rest))) next ∙ here

-- ---- the answer

never_or : (first second : Option BindFault) → (first ≡ Some Memory → ⊥) → (second ≡ Some Memory → ⊥) → option_or first second ≡ Some Memory → ⊥
never_or first second no_first no_second is = grind (arith, nat_tests)

-- want of memory is no fault of bindings or of slots
never_memory : (bindings : List Binding) (names : List (List ℕ)) → early_fault bindings names ≡ Some Memory → ⊥
never_memory bindings names given_1 = grind (arith, nat_tests, never_or, some_first)

pub early_told : (T : Type 0) (bindings : List Binding) (names : List (List ℕ)) (fault : BindFault) → Some fault ≡ early_fault bindings names →
    AnswersEarly {T = T} (early_fault bindings names) (Err fault)
early_told T bindings names fault is = grind (arith, nat_tests, never_memory)

-- where there is no memory for the places
pub early_or_memory : (T : Type 0) (bindings : List Binding) (names : List (List ℕ)) (found : Option BindFault) (fault : BindFault) → found ≡ early_fault bindings names →
    fault ≡ unwrap_or found Memory → AnswersEarly {T = T} (early_fault bindings names) (Err fault)
early_or_memory T bindings names found fault is fault_is = grind (arith, nat_tests, early_told)

pub early_answers : (T : Type 0) (bindings : List Binding) (names : List (List ℕ)) (chunks : List Chunk) (fault : BindFault) →
    AnswersEarly {T = T} (early_fault bindings names) (Err fault) → AnswersBind {T = T} bindings names chunks (Err fault)
early_answers T bindings names chunks fault is = grind (arith, nat_tests)

pub early_writes : (T : Type 0) (bindings : List Binding) (names : List (List ℕ)) (chunks : List Chunk) (fault : BindFault) →
    AnswersEarly {T = T} (early_fault bindings names) (Err fault) → AnswersBinding {T = T} bindings names chunks (Err (Texts fault))
early_writes T bindings names chunks fault is = grind (arith, nat_tests)

pub no_fault : (bindings : List Binding) (names : List (List ℕ)) (chunks : List Chunk) → early_fault bindings names ≡ None →
    fill_fault chunks (map (text_of bindings) names) ≡ None → bind_fault bindings names chunks ≡ None
no_fault bindings names chunks early none = rw (early, none) refl

pub late_answers : (T : Type 0) (bindings : List Binding) (names : List (List ℕ)) (chunks : List Chunk) (fault : FillFault) → early_fault bindings names ≡ None →
    AnswersFill {T = T} (fill_fault chunks (map (text_of bindings) names)) (Err fault) → AnswersBind {T = T} bindings names chunks (Err (of_fill fault))
late_answers T bindings names chunks fault early is = grind (arith, nat_tests)

pub late_writes : (T : Type 0) (bindings : List Binding) (names : List (List ℕ)) (chunks : List Chunk) (fault : FillFault) → early_fault bindings names ≡ None →
    fill_fault chunks (map (text_of bindings) names) ≡ Some fault → AnswersBinding {T = T} bindings names chunks (Err (Texts (of_fill fault)))
late_writes T bindings names chunks fault early is = grind (arith, nat_tests)
