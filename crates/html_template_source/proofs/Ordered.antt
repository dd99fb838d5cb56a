-- The texts of placed bindings, and bindings whose names are those of the template in order.
use Rattle.std.proofs.Common.{ℕ, zero, suc, ◌≡◌, ◌<◌, ◌+◌, true, false, List, [], ◌∷◌, length, map, inl, inr, refl, sym, ap, subst, ◌∙◌, bytes_eq, arith}
use Rattle.std.proofs.lemmas.Bool.Decides.{nat_tests}
use Rattle.std.proofs.lemmas.Bool.{cases_Bool}
use Rattle.std.proofs.lemmas.List.{length-map}
use Rattle.std.specs.Borrow.{Bor}
use Rattle.std.specs.Option.{is_some, option_map, unwrap_or}
use Rattle.std.specs.Prelude.{Option, Some, None}
use Rattle.html_template.specs.Templates.{texts_of}
use Rattle.html_template.specs.FirstFault.{first_fault, first_from}
use Rattle.html_template_source.specs.Bindings.{Binding, binding_faults, binding_told, bound, early_fault, is_among, slot_faults, slot_told, text_of}
use Rattle.html_template_source.specs.Names.{AreBelow, AreSingle, AreUsed, name_at, number_of}
use Rattle.html_template_source.specs.Places.{ArePlaced, text_at, texts_by}
use Rattle.html_template_source.proofs.FirstFaults.{bound_among, same_known}
use Rattle.html_template_source.proofs.Numbers.{below_later, equal_bytes, has_number, same_bytes}

-- the texts that stand at the places of names are those of the names
pub texts_are : (places : Option (Bor (List ℕ))) (bindings : List Binding) (names : List (List ℕ)) (numbers : List ℕ) → ArePlaced places bindings names →
    AreBelow (length names) numbers → texts_by places bindings numbers ≡ map (text_of bindings) (map (name_at names) numbers)
texts_are places bindings names [] placed below = refl
texts_are places bindings names (n ∷ numbers) placed below =
    ap (λ o. unwrap_or o [] ∷ texts_by places bindings numbers) (placed n (below 0 (omega arith)))
    ∙ ap (λ x. text_of bindings (name_at names n) ∷ x) (texts_are places bindings names numbers placed (below_later (length names) n numbers below))

taken : (o : Option ℕ) (k : ℕ) → option_map suc o ≡ Some (suc k) → o ≡ Some k
taken o k is = grind (arith, nat_tests)

-- the others of names that stand once each do so, too
others_single : (first : List ℕ) (others : List (List ℕ)) → AreSingle (first ∷ others) → AreSingle others
others_single first others single k within =
    let whole : number_of (name_at others k) (first ∷ others) ≡ Some (suc k) = single (suc k) (omega arith) in
    elim (cases_Bool (bytes_eq (name_at others k) first)) [
      | inl same ↦ let e : Some 0 ≡ Some (suc k) = rw same at whole in absurd (cc)
      | inr other ↦ taken (number_of (name_at others k) others) k (rw other at whole)
    ]

-- and the first is none of them
first_apart : (first : List ℕ) (others : List (List ℕ)) (k : ℕ) → AreSingle (first ∷ others) → k < length others → bytes_eq first (name_at others k) ≡ false
first_apart first others k single within =
    let whole : number_of (name_at others k) (first ∷ others) ≡ Some (suc k) = single (suc k) (omega arith) in
    elim (cases_Bool (bytes_eq first (name_at others k))) [
      | inl same ↦
          let back : bytes_eq (name_at others k) first ≡ true = equal_bytes (name_at others k) first (sym (same_bytes first (name_at others k) same)) in
          let e : Some 0 ≡ Some (suc k) = rw back at whole in absurd (cc)
      | inr other ↦ other
    ]

-- each binding stands at the number of its name
in_place : (bindings : List Binding) → AreSingle (map (λ (b : Binding). b.name) bindings) → (k : ℕ) → k < length bindings →
    text_at bindings k ≡ bound bindings (name_at (map (λ (b : Binding). b.name) bindings) k)
in_place [] single k within = absurd (omega arith)
in_place (b ∷ bindings) single zero within =
    let same : bytes_eq b.name b.name ≡ true = equal_bytes b.name b.name refl in
    rw same refl
in_place (b ∷ bindings) single (suc k) within =
    let apart : bytes_eq b.name (name_at (map (λ (b : Binding). b.name) bindings) k) ≡ false =
    first_apart b.name (map (λ (b : Binding). b.name) bindings) k single (omega (arith, length-map bindings (λ (b : Binding). b.name))) in
    rw apart (in_place bindings (others_single b.name (map (λ (b : Binding). b.name) bindings) single) k (omega arith))

pub placed_in_order : (bindings : List Binding) (names : List (List ℕ)) → map (λ (b : Binding). b.name) bindings ≡ names → AreSingle names → ArePlaced None bindings names
placed_in_order bindings names order single number within = grind (arith, nat_tests, in_place, length-map)

never_again : (bindings : List Binding) (name : List ℕ) → ((k : ℕ) → k < length bindings → bytes_eq name (name_at (map (λ (b : Binding). b.name) bindings) k) ≡ false) →
    is_among name (map (λ (b : Binding). b.name) bindings) ≡ false
never_again [] name apart = refl
never_again (b ∷ bindings) name apart =
    let here : bytes_eq name b.name ≡ false = apart 0 (omega arith) in
    rw here (never_again bindings name (λ k within. apart (suc k) (omega arith)))

-- no binding has a fault where each is known and stands once
each_sound : (number : ℕ) (names : List (List ℕ)) (bindings : List Binding) → AreSingle (map (λ (b : Binding). b.name) bindings) →
    ((k : ℕ) → k < length bindings → is_among (name_at (map (λ (b : Binding). b.name) bindings) k) names ≡ true) → first_from binding_told number (binding_faults names bindings) ≡ None
each_sound number names [] single known = refl
each_sound number names (b ∷ bindings) single known =
    let here : is_among b.name names ≡ true = known 0 (omega arith) in
    let again : is_some (bound bindings b.name) ≡ false =
    bound_among bindings b.name ∙ never_again bindings b.name (λ k within. first_apart b.name (map (λ (b : Binding). b.name) bindings) k single (omega (arith, length-map bindings (λ (b : Binding). b.name)))) in
    rw (here, again) (each_sound (number + 1) names bindings (others_single b.name (map (λ (b : Binding). b.name) bindings) single) (λ k within. known (suc k) (omega arith)))

each_bound : (number : ℕ) (names : List (List ℕ)) (bindings : List Binding) (numbers : List ℕ) → AreBelow (length names) numbers →
    ((n : ℕ) → n < length names → is_some (bound bindings (name_at names n)) ≡ true) → first_from slot_told number (slot_faults bindings (map (name_at names) numbers)) ≡ None
each_bound number names bindings [] below some = refl
each_bound number names bindings (n ∷ numbers) below some =
    let here : is_some (bound bindings (name_at names n)) ≡ true = some n (below 0 (omega arith)) in
    rw here (each_bound (number + 1) names bindings numbers (below_later (length names) n numbers below) some)

number_among : (names : List (List ℕ)) (k : ℕ) → AreSingle names → k < length names → is_among (name_at names k) names ≡ true
number_among names k single within = sym (has_number (name_at names k) names) ∙ ap is_some (single k within)

-- bindings in order have no fault
pub sound_in_order : (bindings : List Binding) (names : List (List ℕ)) (numbers : List ℕ) → map (λ (b : Binding). b.name) bindings ≡ names → AreSingle names →
    AreUsed names numbers → AreBelow (length names) numbers →
    early_fault bindings (map (name_at names) numbers) ≡ None
sound_in_order bindings names numbers order single used below =
    let P : List (List ℕ) → Type 0 = AreSingle in
    let once : AreSingle (map (λ (b : Binding). b.name) bindings) = subst P (sym order) single in
    let long : length bindings ≡ length names = sym (length-map bindings (λ (b : Binding). b.name)) ∙ ap length order in
    let sound : first_fault binding_told (binding_faults (map (name_at names) numbers) bindings) ≡ None =
    ap (first_fault binding_told) (sym (same_known names (map (name_at names) numbers) bindings used))
    ∙ each_sound 0 names bindings once (λ k within. ap (λ x. is_among (name_at x k) names) order ∙ number_among names k single (omega arith)) in
    let whole : first_fault slot_told (slot_faults bindings (map (name_at names) numbers)) ≡ None =
    each_bound 0 names bindings numbers below (λ n within.
    bound_among bindings (name_at names n) ∙ ap (is_among (name_at names n)) order ∙ number_among names n single within) in
    rw (sound, whole) refl

-- the texts that are handed on are those of the slots
pub same_texts : (places : Option (Bor (List ℕ))) (bindings : List Binding) (distinct : List (Bor (List ℕ))) (numbers got : List ℕ) → got ≡ numbers →
    ArePlaced places bindings (texts_of distinct) → AreBelow (length distinct) numbers →
    texts_by places bindings got ≡ map (text_of bindings) (map (name_at (texts_of distinct)) numbers)
same_texts places bindings distinct numbers got is placed below = grind (arith, nat_tests, texts_are, length-map)
