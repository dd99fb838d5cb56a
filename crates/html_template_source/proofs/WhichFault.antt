-- Which fault of bound texts is the first, and that it is answered.
use Rattle.std.proofs.Common.{ℕ, ◌≡◌, ◌↔◌, List, Option, None, Some, Ok, Err, Result, map, refl, arith}
use Rattle.std.proofs.lemmas.Bool.Decides.{nat_tests}
use Rattle.std.specs.Option.{option_map, option_or}
use Rattle.std.specs.Prelude.{IsErrOf}
use Rattle.html_template.specs.FirstFault.{AreNone, IsFirst, first_fault}
use Rattle.html_template.proofs.FirstFault.{TellsApart, is_first, is_none, some_first}
use Rattle.html_template.specs.FillFaults.{fill_fault}
use Rattle.html_template.specs.Templates.{Chunk}
use Rattle.html_template.specs.declared.faults.FillFault.{FillFault}
use Rattle.html_template.specs.declared.faults.WriteFault.{WriteFault}
use Rattle.html_template.specs.declared.faults.WriteFault.TheVariants.{Texts, Writer}
use Rattle.html_template_source.specs.Bindings.{AnswersBind, AnswersBinding, Binding, BindingFault, IsDoubled, IsEarly, IsUnknown, bind_fault, binding_faults, binding_told, early_fault, slot_faults, slot_told, text_of}
use Rattle.html_template_source.specs.declared.faults.BindFault.{BindFault}
use Rattle.html_template_source.specs.declared.faults.BindFault.TheVariants.{Unknown, Doubled, Missing, Fill, Memory}

-- ---- the first of two

first_of : (first second : Option BindFault) (fault : BindFault) → (second ≡ Some fault → ⊥) → (option_or first second ≡ Some fault) ↔ (first ≡ Some fault)
first_of first second fault never = grind (arith, nat_tests)

second_of : (first second : Option BindFault) (fault : BindFault) → (first ≡ Some fault → ⊥) →
    (option_or first second ≡ Some fault) ↔ ((first ≡ None) × (second ≡ Some fault))
second_of first second fault never = grind (arith, nat_tests)

chained : {A B C : Type 0} → A ↔ B → B ↔ C → A ↔ C
chained first second = (λ a. second.0 (first.0 a), λ c. first.1 (second.1 c))

-- ---- what each tells

bindings_apart : TellsApart binding_told
bindings_apart = grind (arith, nat_tests)

slots_apart : TellsApart slot_told
slots_apart = record { position = λ m n missing other is. cc; fault = λ m n missing other is. refl }

never_missing : (m n : ℕ) (why : BindingFault) → binding_told m why ≡ Missing n → ⊥
never_missing m n why is = grind (arith, nat_tests)

never_fill : (m : ℕ) (why : BindingFault) (fault : FillFault) → binding_told m why ≡ Fill fault → ⊥
never_fill m why fault is = grind (arith, nat_tests)

never_of_fill : (o : Option FillFault) (fault : BindFault) → IsEarly fault → option_map Fill o ≡ Some fault → ⊥
never_of_fill o fault early is = grind (arith, nat_tests)

filled_by : (o : Option FillFault) (fault : FillFault) → (option_map Fill o ≡ Some (Fill fault)) ↔ (o ≡ Some fault)
filled_by o fault = grind (arith, nat_tests)

module _ (bindings : List Binding) (names : List (List ℕ)) (chunks : List Chunk) where
  abbrev of_bindings : Option BindFault
  of_bindings = first_fault binding_told (binding_faults names bindings)

  abbrev of_slots : Option BindFault
  of_slots = first_fault slot_told (slot_faults bindings names)

  abbrev of_texts : Option FillFault
  of_texts = fill_fault chunks (map (text_of bindings) names)

  -- one of a binding or of a slot comes before those of the texts
  told_early : (fault : BindFault) → IsEarly fault → (bind_fault bindings names chunks ≡ Some fault) ↔ (early_fault bindings names ≡ Some fault)
  told_early fault early = first_of (early_fault bindings names) (option_map Fill of_texts) fault (never_of_fill of_texts fault early)

  of_binding : (n : ℕ) (why : BindingFault) → IsEarly (binding_told n why) → ((m : ℕ) → slot_told m tt ≡ binding_told n why → ⊥) →
      (bind_fault bindings names chunks ≡ Some (binding_told n why)) ↔ IsFirst n why (binding_faults names bindings)
  of_binding n why early other =
      chained (told_early (binding_told n why) early)
      (chained
      (first_of of_bindings of_slots (binding_told n why) (some_first slot_told 0 (slot_faults bindings names) (binding_told n why) (λ m missing is. other m is)))
      (is_first binding_told bindings_apart (binding_faults names bindings) n why))

  pub unknown : (n : ℕ) → (bind_fault bindings names chunks ≡ Some (Unknown n)) ↔ IsFirst n IsUnknown (binding_faults names bindings)
  unknown n = of_binding n IsUnknown tt (λ m is. cc)

  pub doubled : (n : ℕ) → (bind_fault bindings names chunks ≡ Some (Doubled n)) ↔ IsFirst n IsDoubled (binding_faults names bindings)
  doubled n = of_binding n IsDoubled tt (λ m is. cc)

  pub missing : (n : ℕ) → (bind_fault bindings names chunks ≡ Some (Missing n)) ↔
      (AreNone (binding_faults names bindings) × IsFirst n tt (slot_faults bindings names))
  missing n =
      let late = chained (told_early (Missing n) tt)
      (second_of of_bindings of_slots (Missing n) (some_first binding_told 0 (binding_faults names bindings) (Missing n) (λ m why is. never_missing m n why is))) in
      let none = is_none binding_told 0 (binding_faults names bindings) in
      let first = is_first slot_told slots_apart (slot_faults bindings names) n tt in
      (λ is. (none.0 (late.0 is).0, first.0 (late.0 is).1), λ at. late.1 (none.1 at.0, first.1 at.1))

  never_early : (fault : FillFault) → early_fault bindings names ≡ Some (Fill fault) → ⊥
  never_early fault is =
      some_first slot_told 0 (slot_faults bindings names) (Fill fault) (λ m missing same. cc)
      ((second_of of_bindings of_slots (Fill fault) (some_first binding_told 0 (binding_faults names bindings) (Fill fault) (λ m why same. never_fill m why fault same))).0 is).1

  pub fill_told : (fault : FillFault) → (bind_fault bindings names chunks ≡ Some (Fill fault)) ↔ ((early_fault bindings names ≡ None) × (of_texts ≡ Some fault))
  fill_told fault =
      let late = second_of (early_fault bindings names) (option_map Fill of_texts) (Fill fault) (never_early fault) in
      let same = filled_by of_texts fault in
      (λ is. ((late.0 is).0, same.0 (late.0 is).1), λ both. late.1 (both.0, same.1 both.1))

  -- ---- it is answered

  pub is_answered : (result : Result (Unit {0}) BindFault) (fault : BindFault) → IsEarly fault → AnswersBind bindings names chunks result →
      IsErrOf result fault ↔ (bind_fault bindings names chunks ≡ Some fault)
  is_answered (Ok done) fault early answers = (λ is. absurd (cc), λ is. absurd (cc))
  is_answered (Err Memory) fault early answers = (
    λ is. absurd (elim_memory fault early (cc)),
    λ is. absurd (let told = (told_early fault early).0 is in cc),
  )
    where
      elim_memory : (fault : BindFault) → IsEarly fault → fault ≡ Memory → ⊥
      elim_memory fault early is = grind (arith, nat_tests)
  is_answered (Err told) fault early answers = (λ is. cc, λ is. cc)

  pub is_written : (result : Result (Unit {0}) (WriteFault BindFault)) (fault : BindFault) → IsEarly fault → AnswersBinding bindings names chunks result →
      IsErrOf result (Texts fault) ↔ (bind_fault bindings names chunks ≡ Some fault)
  is_written (Ok done) fault early answers = (λ is. absurd (cc), λ is. absurd (cc))
  is_written (Err (Texts told)) fault early answers =
      let same = is_answered (Err told) fault early answers in
      (λ is. same.0 (cc), λ is. let told_is = same.1 is in cc)
  is_written (Err (Writer refusal)) fault early answers = (λ is. absurd (cc), λ is. absurd (cc))
