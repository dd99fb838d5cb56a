-- The slots of the parts that are taken so far, and those of the others.
use Rattle.std.proofs.Common.{◌≡◌, ◌≤◌, ℕ, ◌+◌, ◌==◌, List, [], ◌∷◌, length, ◌-◌, drop, take, get_or, map, Option, Some, None, Result, Ok, Err, IsOkAnd, true, false, if◌then◌else◌, suc, ◌++◌, refl, sym, ap, ◌∙◌, subst, inl, inr, arith}
use Rattle.std.specs.Bool.{⊤}
use Rattle.std.proofs.lemmas.Bool.{cases_Bool, cond-false, cond-true}
use Rattle.std.proofs.lemmas.Bool.Decides.{nat_tests}
use Rattle.std.proofs.Math.Seq.{take-length}
use Rattle.html_urls.specs.declared.open_part.OpenPart.{OpenPart}
use Rattle.html_urls.specs.declared.parts.UrlFault.{UrlFault}
use Rattle.html_urls.specs.declared.parts.UrlPart.{UrlPart}
use Rattle.html_urls.specs.declared.parts.UrlPart.TheVariants as part
use Rattle.html_urls.specs.declared.parts.UrlSlot.{UrlSlot}
use Rattle.html_urls.specs.OpenParts.{after_markup, after_text, is_opaque, is_unfixed, open_of, slot_at}
use Rattle.html_urls.specs.Components.{component, component_at}
use Rattle.html_urls.specs.declared.place.UrlPlace.{UrlPlace}
use Rattle.html_urls.specs.declared.place.UrlPlace.TheVariants.{Path, OpaquePath}
use Rattle.html_urls.specs.declared.parts.UrlFault.TheVariants.{NotPlain, NotFixed, DotSegment}
use Rattle.html_urls.specs.TextFaults.{texts_fault, url_fault}
use Rattle.html_urls.proofs.Filled.Told.{first_markup, first_slot, later_markup, later_nothing, later_slot, placed_markup}
use Rattle.html_urls.proofs.Shapes.FormSlots.{markup_stays}
use Rattle.html_urls.specs.SlotFaults.{AnswersSlots, TakesPart}
use Rattle.html_urls.specs.Slots.{FillSlots, FillUrl, FillParts, Given, Markup, Slot, Told, after_slots, bare, first_slots, given, in_opaque, is_opaque_path, is_plain, later_slots, no_parts, opaque_count, placed, slots_from, slots_of, told_of, told_slots, url_of}

-- whether a part follows
pub none_left : (parts : List UrlPart) → no_parts (map bare parts) ≡ (length parts == 0)
none_left [] = refl
none_left (part ∷ parts) = grind (arith, nat_tests)

-- the first slot, where this is open behind the front
pub by_front : (at : UrlPlace) (number : ℕ) (front : List ℕ) (p : OpenPart) (slots : List UrlSlot) (parts : List Given) (new : List UrlSlot) (result : Result (Option OpenPart) UrlFault) → open_of front ≡ Some p →
    TakesPart number front (Some p) slots (Slot at) parts front new result → TakesPart number front None slots (Slot at) parts front new result
by_front at number front p slots parts new result is taken = grind (arith, nat_tests)

-- the fault of a part is that of all
pub answered : {T : Type 0} (items : T → List UrlSlot) (number : ℕ) (front : List ℕ) (open_part : Option OpenPart) (slots : List UrlSlot) (part : Given) (parts : List Given) (new_front : List ℕ) (new_slots : List UrlSlot) (fault : UrlFault) {told : Told} →
    TakesPart number front open_part slots part parts new_front new_slots (Err fault) → after_slots slots (slots_from number front open_part (part ∷ parts)) ≡ told → AnswersSlots items told (Err fault)
answered items number front open_part slots part parts new_front new_slots fault taken is = grind (arith, nat_tests)

-- the slots so far and those of the parts that are left are those of all, also behind one part more
pub next_rest : (number next : ℕ) (front : List ℕ) (open_part : Option OpenPart) (slots : List UrlSlot) (rest : List UrlPart) (d : UrlPart) (new_front : List ℕ) (new_slots : List UrlSlot) (new_part : Option OpenPart) {told : Told} → 1 ≤ length rest → next ≡ number + 1 →
    TakesPart number front open_part slots (bare (get_or rest 0 d)) (map bare (take (length rest - 1) (drop 1 rest))) new_front new_slots (Ok new_part) → after_slots slots (slots_from number front open_part (map bare rest)) ≡ told →
    after_slots new_slots (slots_from next new_front new_part (map bare (take (length rest - 1) (drop 1 rest)))) ≡ told
next_rest number next front open_part slots [] d new_front new_slots new_part some is taken same = absurd (omega arith)
next_rest number next front open_part slots (q ∷ rest) d new_front new_slots new_part some is taken same =
    let size : length (q ∷ rest) - 1 ≡ length rest = omega arith in
    let others : take (length (q ∷ rest) - 1) rest ≡ rest = ap (λ n. take n rest) size ∙ take-length rest in
    ap (λ n. after_slots new_slots (slots_from n new_front new_part (map bare (take (length (q ∷ rest) - 1) rest)))) is ∙ sym taken
    ∙ ap (λ l. after_slots slots (slots_from number front open_part (bare q ∷ map bare l))) others ∙ same

-- ---- the places of the slots change neither the slots nor the faults

no_parts_still : (slots : List UrlSlot) (parts : List Given) → no_parts (placed slots parts) ≡ no_parts parts
no_parts_still [] parts = refl
no_parts_still (slot ∷ slots) [] = refl
no_parts_still (slot ∷ slots) (Markup bytes ∷ parts) = refl
no_parts_still (slot ∷ slots) (Slot at ∷ parts) = refl

later_still : (slots : List UrlSlot) (parts : List Given) (n : ℕ) (p : OpenPart) → later_slots n p (placed slots parts) ≡ later_slots n p parts
later_still [] parts n p = refl
later_still (slot ∷ slots) [] n p = refl
later_still (slot ∷ slots) (Markup bytes ∷ parts) n p =
    λ i.
    if is_plain bytes (no_parts_still (slot ∷ slots) parts i)
    then (if is_unfixed p bytes then Err (NotFixed n) else told_of (after_markup p bytes) (DotSegment n) (λ after. later_still (slot ∷ slots) parts (n + 1) after i))
    else Err (NotPlain n)
later_still (slot ∷ slots) (Slot at ∷ parts) n p =
    λ i. told_of (slot_at p) (DotSegment n) (λ found. after_slots (found ∷ []) (later_still slots parts (n + 1) (after_text p) i))

first_still : (slots : List UrlSlot) (parts : List Given) (n : ℕ) (front : List ℕ) → first_slots n front (placed slots parts) ≡ first_slots n front parts
first_still [] parts n front = refl
first_still (slot ∷ slots) [] n front = refl
first_still (slot ∷ slots) (Markup bytes ∷ parts) n front =
    λ i. if is_plain bytes (no_parts_still (slot ∷ slots) parts i) then first_still (slot ∷ slots) parts (n + 1) (front ++ bytes) i else Err (NotPlain n)
first_still (slot ∷ slots) (Slot at ∷ parts) n front = λ i. told_of (open_of front) (NotFixed n) (λ p. later_still (slot ∷ slots) (Slot at ∷ parts) n p i)

still : (parts : List UrlPart) → slots_of (map bare parts) ≡ slots_of (given parts)
still parts = sym (first_still (told_slots (slots_of (map bare parts))) (map bare parts) 0 [])

pub given_slots : {T : Type 0} (items : T → List UrlSlot) (parts : List UrlPart) (result : Result T UrlFault) → AnswersSlots items (slots_of (map bare parts)) result → AnswersSlots items (slots_of (given parts)) result
given_slots items parts result answers = subst (λ (told : Told). AnswersSlots items told result) (still parts) answers

pub given_fault : (parts : List UrlPart) (texts : List (List ℕ)) → texts_fault (slots_of (map bare parts)) texts ≡ url_fault (given parts) texts
given_fault parts texts = ap (λ told. texts_fault told texts) (still parts)

placed_twice : (slots : List UrlSlot) (parts : List Given) → placed slots (placed slots parts) ≡ placed slots parts
placed_twice [] parts = refl
placed_twice (slot ∷ slots) [] = refl
placed_twice (slot ∷ slots) (Markup bytes ∷ parts) = ap (λ l. Markup bytes ∷ l) (placed_twice (slot ∷ slots) parts)
placed_twice (slot ∷ slots) (Slot at ∷ parts) = ap (λ l. Slot slot.place ∷ l) (placed_twice slots parts)

-- texts that fill the slots fill the URL
pub given_fills : (parts : List UrlPart) (texts : List (List ℕ)) (slots : List UrlSlot) → slots_of (map bare parts) ≡ Ok slots → FillSlots slots texts → FillUrl (given parts) texts
given_fills parts texts slots told fill =
    let same : placed slots (map bare parts) ≡ given parts = ap (λ t. placed (told_slots t) (map bare parts)) (sym told) in
    let twice : placed slots (given parts) ≡ given parts = subst (λ l. placed slots l ≡ l) same (placed_twice slots (map bare parts)) in
    subst (λ (t : Told). IsOkAnd t (FillParts (given parts) texts)) (sym told ∙ still parts) (fill, twice)

-- ---- the slots in an opaque path are the first ones

nothing_placed : (slots : List UrlSlot) → placed slots [] ≡ []
nothing_placed [] = refl
nothing_placed (slot ∷ slots) = refl

nothing_opaque : (parts : List Given) → in_opaque 0 parts ≡ parts
nothing_opaque [] = refl
nothing_opaque (Markup bytes ∷ parts) = ap (λ l. Markup bytes ∷ l) (nothing_opaque parts)
nothing_opaque (Slot at ∷ parts) = ap (λ l. Slot at ∷ l) (nothing_opaque parts)

one_opaque : (n : ℕ) (parts : List Given) → in_opaque (suc n) (Slot Path ∷ parts) ≡ Slot OpaquePath ∷ in_opaque n parts
one_opaque n parts =
    let place : (if suc n == 0 then Path else OpaquePath) ≡ OpaquePath = grind (arith, nat_tests) in
    let count : suc n - 1 ≡ n = omega arith in
    λ i. Slot (place i) ∷ in_opaque (count i) parts

-- behind a slot in no opaque path none stands in one
abbrev Leading : List UrlSlot → Type 0
Leading [] = ⊤
Leading (slot ∷ slots) = (is_opaque_path slot.place ≡ false → opaque_count slots ≡ 0) × Leading slots

slot_opaque : (p : OpenPart) (slot : UrlSlot) → slot_at p ≡ Some slot → (is_opaque_path slot.place ≡ is_opaque p) × (is_opaque (after_text p) ≡ is_opaque p)
slot_opaque p slot here = grind (arith, nat_tests)

later_leading : (parts : List Given) (n : ℕ) (p : OpenPart) (slots : List UrlSlot) → later_slots n p parts ≡ Ok slots → Leading slots × (is_opaque p ≡ false → opaque_count slots ≡ 0)
later_leading [] n p slots told = subst (λ l. Leading l × (is_opaque p ≡ false → opaque_count l ≡ 0)) (sym (later_nothing n p slots told).1) (tt, λ other. refl)
later_leading (Markup bytes ∷ parts) n p slots told =
    let (q, plain, is, rest) = later_markup n p bytes parts slots told in
    let later = later_leading parts (n + 1) q slots rest in
    (later.0, λ other. later.1 (markup_stays p q bytes is other))
later_leading (Slot at ∷ parts) n p slots told =
    let (slot, more, here, rest, are) = later_slot n p at parts slots told in
    let later = later_leading parts (n + 1) (after_text p) more rest in
    let same = slot_opaque p slot here in
    subst (λ l. Leading l × (is_opaque p ≡ false → opaque_count l ≡ 0)) (sym are)
    (((λ other. later.1 (same.1 ∙ sym same.0 ∙ other)), later.0), λ other. cond-false _ _ _ (same.0 ∙ other))

first_leading : (parts : List Given) (n : ℕ) (front : List ℕ) (slots : List UrlSlot) → first_slots n front parts ≡ Ok slots → Leading slots
first_leading [] n front slots told = let none : [] ≡ slots = cc in subst Leading none tt
first_leading (Markup bytes ∷ parts) n front slots told = first_leading parts (n + 1) (front ++ bytes) slots (first_markup n front bytes parts slots told).1
first_leading (Slot at ∷ parts) n front slots told = let (p, is, rest) = first_slot n front at parts slots told in (later_leading (Slot at ∷ parts) n p slots rest).0

-- the text in the one place is written as in the other
same_opaque : (at : UrlPlace) (text : List ℕ) → is_opaque_path at ≡ true → component_at OpaquePath text ≡ component_at at text
same_opaque at text opaque = grind (arith, nat_tests)

same_component : (at : UrlPlace) (text : List ℕ) → is_opaque_path at ≡ false → component text ≡ component_at at text
same_component at text other = grind (arith, nat_tests)

slot_written : (a b : UrlPlace) (before after : List Given) (texts : List (List ℕ)) → ((text : List ℕ) → component_at a text ≡ component_at b text) → ((texts : List (List ℕ)) → url_of before texts ≡ url_of after texts) →
    url_of (Slot a ∷ before) texts ≡ url_of (Slot b ∷ after) texts
slot_written a b before after [] alike same = same []
slot_written a b before after (text ∷ texts) alike same = ap (λ l. l ++ url_of before texts) (alike text) ∙ ap (λ l. component_at b text ++ l) (same texts)

leading_written : (parts : List UrlPart) (slots : List UrlSlot) (texts : List (List ℕ)) → Leading slots → url_of (in_opaque (opaque_count slots) (map bare parts)) texts ≡ url_of (placed slots (map bare parts)) texts
leading_written [] slots texts leading = ap (λ l. url_of l texts) (sym (nothing_placed slots))
leading_written (part.Markup markup ∷ parts) slots texts leading =
    ap (λ l. markup.now ++ l) (leading_written parts slots texts leading) ∙ ap (λ l. url_of l texts) (sym (placed_markup slots markup.now (map bare parts)))
leading_written (part.Slot ∷ parts) [] texts leading = ap (λ l. url_of l texts) (nothing_opaque (Slot Path ∷ map bare parts))
leading_written (part.Slot ∷ parts) (slot ∷ slots) texts leading =
    let later : (texts : List (List ℕ)) → url_of (in_opaque (opaque_count slots) (map bare parts)) texts ≡ url_of (placed slots (map bare parts)) texts = λ texts. leading_written parts slots texts leading.1 in
    elim (cases_Bool (is_opaque_path slot.place)) [
      | inl opaque ↦ ap (λ l. url_of l texts) (ap (λ n. in_opaque n (Slot Path ∷ map bare parts)) (cond-true _ _ _ opaque) ∙ one_opaque (opaque_count slots) (map bare parts))
          ∙ slot_written OpaquePath slot.place (in_opaque (opaque_count slots) (map bare parts)) (placed slots (map bare parts)) texts (λ text. same_opaque slot.place text opaque) later
      | inr other ↦ ap (λ n. url_of (in_opaque n (Slot Path ∷ map bare parts)) texts) (cond-false _ _ _ other)
          ∙ slot_written Path slot.place (in_opaque 0 (map bare parts)) (placed slots (map bare parts)) texts (λ text. same_component slot.place text other)
          (λ texts. ap (λ n. url_of (in_opaque n (map bare parts)) texts) (sym (leading.0 other)) ∙ later texts)
    ]

-- so many of the first slots are written as addresses
pub opaque_first : (parts : List UrlPart) (texts : List (List ℕ)) (slots : List UrlSlot) → slots_of (map bare parts) ≡ Ok slots →
    url_of (in_opaque (opaque_count slots) (map bare parts)) texts ≡ url_of (given parts) texts
opaque_first parts texts slots told =
    leading_written parts slots texts (first_leading (map bare parts) 0 [] slots told) ∙ ap (λ t. url_of (placed (told_slots t) (map bare parts)) texts) (sym told)
