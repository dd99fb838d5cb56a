-- What is known of parts whose slots are told.
use Rattle.std.proofs.Common.{◌≡◌, ℕ, ◌+◌, true, false, List, [], ◌∷◌, ◌++◌, Option, Some, None, Ok, Err, IsOkAnd, Bool, ◌||◌, if◌then◌else◌, refl, arith}
use Rattle.std.proofs.lemmas.Bool.Decides.{nat_tests}
use Rattle.html_urls.specs.declared.open_part.OpenPart.{OpenPart}
use Rattle.html_urls.specs.declared.parts.UrlSlot.{UrlSlot}
use Rattle.html_urls.specs.declared.parts.UrlFault.TheVariants.{NotPlain, NotFixed, DotSegment}
use Rattle.html_urls.specs.declared.parts.UrlFault.{UrlFault}
use Rattle.html_urls.specs.declared.place.UrlPlace.{UrlPlace}
use Rattle.html_urls.specs.OpenParts.{after_markup, after_text, ends_scheme, has_slash, is_opaque, is_unfixed, may_be_dots, open_of, slot_at}
use Rattle.html_urls.specs.Slots.{FillParts, Told, Given, Markup, Slot, first_slots, is_plain, later_slots, no_parts, placed, told_of}

-- ---- before the first slot

pub first_markup : (number : ℕ) (front bytes : List ℕ) (parts : List Given) (slots : List UrlSlot) → first_slots number front (Markup bytes ∷ parts) ≡ Ok slots →
    (is_plain bytes (no_parts parts) ≡ true) × (first_slots (number + 1) (front ++ bytes) parts ≡ Ok slots)
first_markup number front bytes parts slots told = grind (arith, nat_tests)

pub first_slot : (number : ℕ) (front : List ℕ) (at : UrlPlace) (parts : List Given) (slots : List UrlSlot) → first_slots number front (Slot at ∷ parts) ≡ Ok slots →
    (p : OpenPart) × (open_of front ≡ Some p) × (later_slots number p (Slot at ∷ parts) ≡ Ok slots)
first_slot number front at parts slots told = by_part (open_of front) refl told
  where
    by_part : (o : Option OpenPart) → open_of front ≡ o → told_of o (NotFixed number) (λ p. later_slots number p (Slot at ∷ parts)) ≡ Ok slots →
        (p : OpenPart) × (open_of front ≡ Some p) × (later_slots number p (Slot at ∷ parts) ≡ Ok slots)
    by_part (Some p) is found = (p, is, found)
    by_part None is found = cc

-- ---- behind it

pub later_nothing : (number : ℕ) (p : OpenPart) (slots : List UrlSlot) → later_slots number p [] ≡ Ok slots → (may_be_dots p ≡ false) × (slots ≡ [])
later_nothing number p slots told = grind (arith, nat_tests)

passed : (not_plain not_fixed : UrlFault) (plain ends : Bool) {slots : List UrlSlot} {told : Told} → (if plain then (if ends then Err not_fixed else told) else Err not_plain) ≡ Ok slots → (plain ≡ true) × (ends ≡ false) × (told ≡ Ok slots)
passed not_plain not_fixed true false is = (refl, refl, is)
passed not_plain not_fixed true true is = cc
passed not_plain not_fixed false ends is = cc

pub later_markup : (number : ℕ) (p : OpenPart) (bytes : List ℕ) (parts : List Given) (slots : List UrlSlot) → later_slots number p (Markup bytes ∷ parts) ≡ Ok slots →
    (q : OpenPart) × (is_plain bytes (no_parts parts) ≡ true) × (after_markup p bytes ≡ Some q) × (later_slots (number + 1) q parts ≡ Ok slots)
later_markup number p bytes parts slots told = by_part (after_markup p bytes) refl (passed (NotPlain number) (NotFixed number) (is_plain bytes (no_parts parts)) (is_unfixed p bytes) told).2
  where
    by_part : (o : Option OpenPart) → after_markup p bytes ≡ o → told_of o (DotSegment number) (λ q. later_slots (number + 1) q parts) ≡ Ok slots →
        (q : OpenPart) × (is_plain bytes (no_parts parts) ≡ true) × (after_markup p bytes ≡ Some q) × (later_slots (number + 1) q parts ≡ Ok slots)
    by_part (Some q) is found = (q, (passed (NotPlain number) (NotFixed number) (is_plain bytes (no_parts parts)) (is_unfixed p bytes) told).0, is, found)
    by_part None is found = cc

pub later_fixed : (number : ℕ) (p : OpenPart) (bytes : List ℕ) (parts : List Given) (slots : List UrlSlot) → later_slots number p (Markup bytes ∷ parts) ≡ Ok slots → is_unfixed p bytes ≡ false
later_fixed number p bytes parts slots told = (passed (NotPlain number) (NotFixed number) (is_plain bytes (no_parts parts)) (is_unfixed p bytes) told).1

pub later_scheme : (number : ℕ) (p : OpenPart) (bytes : List ℕ) (parts : List Given) (slots : List UrlSlot) → later_slots number p (Markup bytes ∷ parts) ≡ Ok slots → ends_scheme p bytes ≡ false
later_scheme number p bytes parts slots told = (neither (later_fixed number p bytes parts slots told)).0
  where
    neither : {x y : Bool} → (x || y) ≡ false → (x ≡ false) × (y ≡ false)
    neither {x = x} {y = y} none = grind (arith, nat_tests)

pub later_slash : (number : ℕ) (p : OpenPart) (bytes : List ℕ) (parts : List Given) (slots : List UrlSlot) → later_slots number p (Markup bytes ∷ parts) ≡ Ok slots → is_opaque p ≡ true → has_slash bytes ≡ false
later_slash number p bytes parts slots told opaque = grind (arith, nat_tests, later_fixed)

pub later_slot : (number : ℕ) (p : OpenPart) (at : UrlPlace) (parts : List Given) (slots : List UrlSlot) → later_slots number p (Slot at ∷ parts) ≡ Ok slots →
    (slot : UrlSlot) × (more : List UrlSlot) × (slot_at p ≡ Some slot) × (later_slots (number + 1) (after_text p) parts ≡ Ok more) × (slots ≡ slot ∷ more)
later_slot number p at parts slots told = grind (arith, nat_tests)

-- ---- texts that fill them

pub told_slots : (told : Told) (parts : List Given) (texts : List (List ℕ)) → IsOkAnd told (FillParts parts texts) → (slots : List UrlSlot) × (told ≡ Ok slots) × FillParts parts texts slots
told_slots (Ok slots) parts texts fill = (slots, refl, fill)
told_slots (Err e) parts texts fill = absurd fill

-- ---- the places of the slots

pub placed_markup : (slots : List UrlSlot) (bytes : List ℕ) (parts : List Given) → placed slots (Markup bytes ∷ parts) ≡ Markup bytes ∷ placed slots parts
placed_markup [] bytes parts = refl
placed_markup (slot ∷ slots) bytes parts = refl

pub first_place : (slots : List UrlSlot) (slot : UrlSlot) {at : UrlPlace} {parts : List Given} → placed (slot ∷ slots) (Slot at ∷ parts) ≡ Slot at ∷ parts → at ≡ slot.place
first_place slots slot same = cc

pub later_places : (slots : List UrlSlot) (slot : UrlSlot) {at : UrlPlace} {parts : List Given} → placed (slot ∷ slots) (Slot at ∷ parts) ≡ Slot at ∷ parts → placed slots parts ≡ parts
later_places slots slot same = cc

pub markup_places : (slots : List UrlSlot) {bytes : List ℕ} {parts : List Given} → placed slots (Markup bytes ∷ parts) ≡ Markup bytes ∷ parts → placed slots parts ≡ parts
markup_places [] same = refl
markup_places (slot ∷ slots) same = cc
