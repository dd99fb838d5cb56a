-- Bindings that were placed, from the last one on.
use Rattle.std.proofs.Common.{ℕ, zero, suc, ◌≡◌, ◌≢◌, ◌++◌, ◌<◌, ◌≤◌, ◌+◌, ◌-◌, true, false, List, [], ◌∷◌, length, inl, inr, refl, sym, ap, ◌∙◌, append_assoc, append-nil, bytes_eq, get_or, map, replicate, set, take, arith}
use Rattle.std.proofs.lemmas.Bool.Decides.{nat_tests}
use Rattle.std.proofs.Math.Dec.{ltb}
use Rattle.std.proofs.lemmas.Bool.{cases_Bool, cases_lt, le-ltb, lt-ltb}
use Rattle.std.proofs.lemmas.List.{get_or-replicate, get_or-set_other, get_or-set_same, length-take}
use Rattle.std.proofs.lemmas.Option.{slice_get-get_or, slice_get_past}
use Rattle.std.specs.Borrow.{Bor}
use Rattle.std.specs.Option.{is_some, option_map, option_or}
use Rattle.html_template.specs.FirstFault.{first_from}
use Rattle.html_template_source.specs.declared.faults.BindFault.{BindFault}
use Rattle.std.specs.Prelude.{IfSome, Option, Some, None, slice_get}
use Rattle.html_template_source.specs.Bindings.{Binding, BindingFault, binding_fault, binding_faults, binding_told, bindings_of, bound, is_among, slot_fault, slot_faults}
use Rattle.html_template_source.specs.Names.{AreBelow, AreSingle, name_at, number_of}
use Rattle.html_template_source.specs.Places.{AreListed, is_taken, places_after, placing_fault, text_at, unplaced}
use Rattle.html_template_source.proofs.Numbers.{below_later, equal_bytes, has_number, numbered, same_bytes}

-- all but the last, and the last
pub front_and_last : {T : Type 0} (items : List T) (last : T) → 1 ≤ length items →
    items ≡ take (length items - 1) items ++ get_or items (length items - 1) last ∷ []
front_and_last [] last some = absurd (omega arith)
front_and_last (item ∷ []) last some = refl
front_and_last (item ∷ next ∷ items) last some =
    let n : length (item ∷ next ∷ items) - 1 ≡ suc (length (next ∷ items) - 1) = omega arith in
    rw n (ap (λ x. item ∷ x) (front_and_last (next ∷ items) last (omega arith)))

-- there is a text at each place of a binding, and at no other
some_text : (bindings : List Binding) (place : ℕ) → place < length bindings → is_some (text_at bindings place) ≡ true
some_text [] place within = absurd (omega arith)
some_text (b ∷ bindings) zero within = refl
some_text (b ∷ bindings) (suc place) within = some_text bindings place (omega arith)

pub no_text : (bindings : List Binding) (place : ℕ) → length bindings ≤ place → text_at bindings place ≡ None
no_text bindings place past = rw (slice_get_past bindings place past) refl

pub has_text : (bindings : List Binding) (place : ℕ) → is_some (text_at bindings place) ≡ ltb place (length bindings)
has_text bindings place = grind (arith, nat_tests, cases_lt, some_text, lt-ltb, no_text, le-ltb)

-- the text of the binding after these
text_after : (front later : List (Bor (List ℕ) × Bor (List ℕ))) (b : Bor (List ℕ) × Bor (List ℕ)) →
    text_at (bindings_of (front ++ b ∷ later)) (length front) ≡ Some b.1.now
text_after [] later b = refl
text_after (f ∷ front) later b = text_after front later b

-- the name of another number is another name
other_name : (names : List (List ℕ)) (name : List ℕ) (number : Option ℕ) (k : ℕ) → AreSingle names → k < length names →
    number ≡ number_of name names → number ≢ Some k → bytes_eq name (name_at names k) ≡ false
other_name names name number k single within is apart = elim (cases_Bool (bytes_eq name (name_at names k))) [
  | inl same ↦ absurd (apart (is ∙ ap (λ x. number_of x names) (same_bytes name (name_at names k) same) ∙ single k within))
  | inr other ↦ other
]

-- one binding more is put down, before the others
placed_more : (names : List (List ℕ)) (bindings later : List Binding) (b : Binding) (place : ℕ) (number : Option ℕ) (places : List ℕ) →
    AreSingle names → length names ≤ length places → number ≡ number_of b.name names → text_at bindings place ≡ Some b.text →
    ((k : ℕ) → k < length names → text_at bindings (get_or places k 0) ≡ bound later (name_at names k)) →
    (k : ℕ) → k < length names → text_at bindings (get_or (places_after place number places) k 0) ≡ bound (b ∷ later) (name_at names k)
placed_more names bindings later b place number places single enough is at placed k within = grind (arith, nat_tests, other_name, numbered, bytes_eq, equal_bytes, set, get_or-set_same, get_or-set_other)

-- ---- the faults that places tell

-- a name is taken where it is bound
taken_bound : (bindings later : List Binding) (places : List ℕ) (n : ℕ) (name : List ℕ) → n < length places →
    text_at bindings (get_or places n 0) ≡ bound later name → is_taken (length bindings) (slice_get places n) ≡ is_some (bound later name)
taken_bound bindings later places n name within same = grind (arith, nat_tests, slice_get-get_or, has_text)

placing_is : (names : List (List ℕ)) (bindings later : List Binding) (b : Binding) (number : Option ℕ) (places : List ℕ) → number ≡ number_of b.name names →
    length names ≤ length places → ((k : ℕ) → k < length names → text_at bindings (get_or places k 0) ≡ bound later (name_at names k)) →
    placing_fault (length bindings) number places ≡ binding_fault names b later
placing_is names bindings later b None places is enough placed =
    let among : is_among b.name names ≡ false = sym (has_number b.name names) ∙ ap is_some (sym is) in
    rw among refl
placing_is names bindings later b (Some n) places is enough placed =
    let among : is_among b.name names ≡ true = sym (has_number b.name names) ∙ ap is_some (sym is) in
    let number = numbered b.name names n (sym is) in
    let same : text_at bindings (get_or places n 0) ≡ bound later b.name = placed n number.0 ∙ ap (bound later) number.1 in
    let long : n < length places = omega (arith, number.0) in
    rw (among, taken_bound bindings later places n b.name long same) refl

-- those of slots, where all bindings are put down
pub unplaced_are : (names : List (List ℕ)) (bindings : List Binding) (places numbers : List ℕ) → length names ≤ length places → AreBelow (length names) numbers →
    ((k : ℕ) → k < length names → text_at bindings (get_or places k 0) ≡ bound bindings (name_at names k)) →
    unplaced (length bindings) places numbers ≡ slot_faults bindings (map (name_at names) numbers)
unplaced_are names bindings places [] enough below placed = refl
unplaced_are names bindings places (n ∷ numbers) enough below placed =
    let within : n < length names = below 0 (omega arith) in
    let long : n < length places = omega arith in
    rw (taken_bound bindings bindings places n (name_at names n) long (placed n within))
    (ap (λ faults. slot_fault bindings (name_at names n) ∷ faults) (unplaced_are names bindings places numbers enough (below_later (length names) n numbers below) placed))

-- the number of a name is that of a place
pub has_place : (names : List (List ℕ)) (name : List ℕ) (number : Option ℕ) (count : ℕ) → number ≡ number_of name names → length names ≤ count →
    IfSome number (λ n. n < count)
has_place names name None count is enough = tt
has_place names name (Some n) count is enough = omega (arith, (numbered name names n (sym is)).0)

-- ---- the bindings after the rest are put down, and the first of them with a fault is known

abbrev pub ArePlacedAfter : List (List ℕ) → List (Bor (List ℕ) × Bor (List ℕ)) → List ℕ → List (Bor (List ℕ) × Bor (List ℕ)) → Option BindFault → Type 0
ArePlacedAfter names bindings places rest first =
    (later : List (Bor (List ℕ) × Bor (List ℕ))) × ((rest ++ later ≡ bindings)
    × (first ≡ first_from binding_told (length rest) (binding_faults names (bindings_of later)))
    × ((k : ℕ) → k < length names → text_at (bindings_of bindings) (get_or places k 0) ≡ bound (bindings_of later) (name_at names k)))

pub length-bindings : (bindings : List (Bor (List ℕ) × Bor (List ℕ))) → length (bindings_of bindings) ≡ length bindings
length-bindings [] = refl
length-bindings (b ∷ bindings) = ap suc (length-bindings bindings)

-- none is put down at first
pub none_placed : (names : List (List ℕ)) (bindings : List (Bor (List ℕ) × Bor (List ℕ))) (places : List ℕ) (nowhere : ℕ) → length bindings ≤ nowhere →
    length names ≤ length places → places ≡ replicate (length places) nowhere → ArePlacedAfter names bindings places bindings None
none_placed names bindings places nowhere far enough fresh = (
  [],
  (
    append-nil bindings,
    refl,
    λ k within.
        let at : get_or places k 0 ≡ nowhere = ap (λ x. get_or x k 0) fresh ∙ get_or-replicate (length places) k nowhere 0 (omega arith) in
        ap (text_at (bindings_of bindings)) at
        ∙ no_text (bindings_of bindings) nowhere (omega (arith, length-bindings bindings)),
  ),
)

first_more : (n : ℕ) (why : Option BindingFault) (faults : List (Option BindingFault)) (first : Option BindFault) → first ≡ first_from binding_told (n + 1) faults →
    option_or (option_map (binding_told n) why) first ≡ first_from binding_told n (why ∷ faults)
first_more n why faults first is = grind (arith, nat_tests)

-- the last binding of the rest is put down, too
pub last_placed : (names : List (List ℕ)) (bindings rest : List (Bor (List ℕ) × Bor (List ℕ))) (places more : List ℕ) (first fault next : Option BindFault)
    (last : Bor (List ℕ) × Bor (List ℕ)) (number : Option ℕ) → AreSingle names → length names ≤ length places → 1 ≤ length rest →
    ArePlacedAfter names bindings places rest first → number ≡ number_of (get_or rest (length rest - 1) last).0.now names →
    more ≡ places_after (length (take (length rest - 1) rest)) number places →
    fault ≡ option_map (binding_told (length (take (length rest - 1) rest))) (placing_fault (length bindings) number places) → next ≡ option_or fault first →
    ArePlacedAfter names bindings more (take (length rest - 1) rest) next
last_placed names bindings rest places more first fault next last number single enough some (later, (whole, was, placed)) is more_is fault_is next_is =
    let front : List (Bor (List ℕ) × Bor (List ℕ)) = take (length rest - 1) rest in
    let b : Bor (List ℕ) × Bor (List ℕ) = get_or rest (length rest - 1) last in
    let binding : Binding = record { name = b.0.now; text = b.1.now } in
    let all : front ++ b ∷ later ≡ bindings =
    sym (append_assoc front (b ∷ []) later) ∙ ap (λ x. x ++ later) (sym (front_and_last rest last some)) ∙ whole in
    let at : text_at (bindings_of bindings) (length front) ≡ Some b.1.now =
    ap (λ x. text_at (bindings_of x) (length front)) (sym all) ∙ text_after front later b in
    let rest_long : length rest ≡ length front + 1 = omega (arith, length-take (length rest - 1) rest) in
    let why : placing_fault (length bindings) number places ≡ binding_fault names binding (bindings_of later) =
    ap (λ n. placing_fault n number places) (sym (length-bindings bindings)) ∙ placing_is names (bindings_of bindings) (bindings_of later) binding number places is enough placed in (
      b ∷ later,
      (
        all,
        next_is
            ∙ ap (λ o. option_or o first) (fault_is ∙ ap (option_map (binding_told (length front))) why)
            ∙ first_more (length front) (binding_fault names binding (bindings_of later)) (binding_faults names (bindings_of later)) first
            (was ∙ ap (λ n. first_from binding_told n (binding_faults names (bindings_of later))) rest_long),
        λ k within.
            ap (λ x. text_at (bindings_of bindings) (get_or x k 0)) more_is
            ∙ placed_more names (bindings_of bindings) (bindings_of later) binding (length front) number places single enough is at placed k within,
      ),
    )

-- places that are put down for all names are those of the bindings
pub listed_places : (places : List ℕ) (bindings : List Binding) (names : List (List ℕ)) → length names ≤ length places →
    ((k : ℕ) → k < length names → text_at bindings (get_or places k 0) ≡ bound bindings (name_at names k)) →
    AreListed (Some places) bindings names
listed_places places bindings names enough placed given_x5 is = grind (arith, nat_tests, slice_get-get_or)
