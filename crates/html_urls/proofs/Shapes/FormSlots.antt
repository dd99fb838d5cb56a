-- Behind a `?` no slot stands in an opaque path: there each text is a component.
use Rattle.std.proofs.Common.{◌≡◌, ℕ, ◌+◌, Bool, if◌then◌else◌, true, false, ◌&&◌, ◌||◌, ◌==◌, List, [], ◌∷◌, ◌++◌, Some, None, Ok, is_some, unwrap_or, All, sym, refl, ap, ◌∙◌, subst, eqb-true, inl, inr, arith}
use Rattle.std.specs.Bool.{⊤}
use Rattle.std.proofs.lemmas.Bool.{both_ways, cases_Bool, cond-false, cond-true}
use Rattle.std.proofs.lemmas.Bool.Decides.{nat_tests}
use Rattle.std.proofs.lemmas.List.Elements.{All-cons, All-head, All-nil, All-tail}
use Rattle.form_urlencoded.specs.Form.{split}
use Rattle.html_urls.specs.declared.open_part.OpenPart.{OpenPart}
use Rattle.html_urls.specs.declared.open_part.OpenPart.TheVariants.{Query, Fragment}
use Rattle.html_urls.specs.Links.{is_link}
use Rattle.html_urls.specs.declared.parts.UrlSlot.{UrlSlot}
use Rattle.html_urls.specs.declared.place.UrlPlace.{UrlPlace}
use Rattle.html_urls.specs.OpenParts.{after_byte, after_markup, after_text, ends_in_opaque_path, has_address_scheme, has_byte, is_end, is_opaque, may_be_dots, open_of, open_of_link, slot_at}
use Rattle.html_urls.specs.Pieces.{onto_piece, pieces}
use Rattle.html_urls.specs.Shapes.{before_fragment_parts, query_parts, split_parts}
use Rattle.html_urls.specs.Slots.{FillUrl, Given, Markup, Slot, first_slots, is_opaque_path, later_slots, placed, slots_of}
use Rattle.html_urls.proofs.Filled.Told.{first_markup, first_place, first_slot, later_markup, later_places, later_slot, markup_places, told_slots}
use Rattle.html_urls.proofs.Bases.Origins.{byte_before, byte_behind}
use Rattle.html_urls.proofs.Places.OpaqueFronts.{opaque_end}
use Rattle.html_urls.proofs.Places.FixedHosts.{byte_found}
use Rattle.html_urls.proofs.Shapes.Fills.{clear, found, markup_split}
use Rattle.html_urls.proofs.Shapes.Pieces.{onto_pieces, pieces_are}

-- a text here is a component
abbrev pub IsForm : UrlPlace → Type 0
IsForm at = is_opaque_path at ≡ false

abbrev pub AllSlots : (UrlPlace → Type 0) → List Given → Type 0
AllSlots Suits [] = ⊤
AllSlots Suits (Markup bytes ∷ parts) = AllSlots Suits parts
AllSlots Suits (Slot at ∷ parts) = Suits at × AllSlots Suits parts

pub any_slots : (parts : List Given) → AllSlots (λ at. ⊤) parts
any_slots [] = tt
any_slots (Markup bytes ∷ parts) = any_slots parts
any_slots (Slot at ∷ parts) = (tt, any_slots parts)

abbrev pub FormSlots : List Given → Type 0
FormSlots parts = AllSlots IsForm parts

-- ---- halves and pieces

pub halves_form : (mark : ℕ) (parts : List Given) → FormSlots parts → FormSlots (split_parts mark parts).0 × FormSlots (unwrap_or (split_parts mark parts).1 [])
halves_form mark [] form = (tt, tt)
halves_form mark (Markup bytes ∷ parts) form = elim (markup_split mark bytes parts) [ found before after is halves whole ↦ rw halves (tt, form) | clear halves whole ↦ rw halves (halves_form mark parts form) ]
halves_form mark (Slot at ∷ parts) form = let later = halves_form mark parts form.1 in ((form.0, later.0), later.1)

markup_form : (l : List (List ℕ)) (later : List (List Given)) → All FormSlots later → All FormSlots (onto_pieces l later)
markup_form [] later all = all
markup_form (bytes ∷ []) [] all = All-cons FormSlots (Markup bytes ∷ []) [] tt (All-nil FormSlots)
markup_form (bytes ∷ []) (piece ∷ more) all = All-cons FormSlots (Markup bytes ∷ piece) more (All-head FormSlots piece more all) (All-tail FormSlots piece more all)
markup_form (bytes ∷ next ∷ more) later all = All-cons FormSlots (Markup bytes ∷ []) (onto_pieces (next ∷ more) later) tt (markup_form (next ∷ more) later all)

slot_form : (at : UrlPlace) (l : List (List Given)) → IsForm at → All FormSlots l → All FormSlots (onto_piece (Slot at) l)
slot_form at [] here all = All-cons FormSlots (Slot at ∷ []) [] (here, tt) (All-nil FormSlots)
slot_form at (piece ∷ more) here all = All-cons FormSlots (Slot at ∷ piece) more (here, All-head FormSlots piece more all) (All-tail FormSlots piece more all)

pub pieces_form : (mark : ℕ) (parts : List Given) → FormSlots parts → All FormSlots (pieces mark parts)
pieces_form mark [] form = All-cons FormSlots [] [] tt (All-nil FormSlots)
pieces_form mark (Markup bytes ∷ parts) form = subst (All FormSlots) (sym (pieces_are mark bytes (pieces mark parts))) (markup_form (split mark bytes) (pieces mark parts) (pieces_form mark parts form))
pieces_form mark (Slot at ∷ parts) form = slot_form at (pieces mark parts) form.0 (pieces_form mark parts form.1)

-- ---- behind a `?`

abbrev QueryForm : List Given → Type 0
QueryForm [] = ⊤
QueryForm (Markup bytes ∷ parts) = (has_byte 63 bytes ≡ true → FormSlots parts) × QueryForm parts
QueryForm (Slot at ∷ parts) = QueryForm parts

before_form : (mark : ℕ) (parts : List Given) → QueryForm parts → QueryForm (split_parts mark parts).0
before_form mark [] form = tt
before_form mark (Markup bytes ∷ parts) form =
    elim (markup_split mark bytes parts) [
      | found before after is halves whole ↦ rw halves ((λ has. tt), tt)
      | clear halves whole ↦ rw halves ((λ has. (halves_form mark parts (form.0 has)).0), before_form mark parts form.1)
    ]
before_form mark (Slot at ∷ parts) form = before_form mark parts form

behind_form : (parts : List Given) → QueryForm parts → FormSlots (unwrap_or (split_parts 63 parts).1 [])
behind_form [] form = tt
behind_form (Markup bytes ∷ parts) form =
    elim (markup_split 63 bytes parts) [ found before after is halves whole ↦ rw halves (form.0 (byte_found 63 bytes ∙ ap is_some is)) | clear halves whole ↦ rw halves (behind_form parts form.1) ]
behind_form (Slot at ∷ parts) form = behind_form parts form

-- ---- what is open is no opaque path behind one byte, behind markup, and behind a `?`

byte_stays : (p : OpenPart) (b : ℕ) → is_opaque p ≡ false → is_opaque (after_byte p b) ≡ false
byte_stays p b other = grind (arith, nat_tests)

query_ends : (p : OpenPart) → is_opaque (after_byte p 63) ≡ false
query_ends p = grind (arith, nat_tests)

part_is : {p q : OpenPart} → Some p ≡ Some q → p ≡ q
part_is same = cc

pub markup_stays : (p q : OpenPart) (markup : List ℕ) → after_markup p markup ≡ Some q → is_opaque p ≡ false → is_opaque q ≡ false
markup_stays p q [] is other = subst (λ r. is_opaque r ≡ false) (part_is is) other
markup_stays p q (b ∷ markup) is other =
    elim (cases_Bool (may_be_dots p && is_end b)) [ inl closed ↦ let clash : None ≡ Some q = rw closed at is in cc | inr open_still ↦ markup_stays (after_byte p b) q markup (rw open_still at is) (byte_stays p b other) ]

markup_leaves : (p q : OpenPart) (markup : List ℕ) → after_markup p markup ≡ Some q → has_byte 63 markup ≡ true → is_opaque q ≡ false
markup_leaves p q [] is has = cc
markup_leaves p q (b ∷ markup) is has =
    elim (cases_Bool (may_be_dots p && is_end b)) [
      | inl closed ↦ let clash : None ≡ Some q = rw closed at is in cc
      | inr open_still ↦ let later : after_markup (after_byte p b) markup ≡ Some q = rw open_still at is in
          elim (cases_Bool (b == 63)) [
            | inl here ↦ markup_stays (after_byte p b) q markup later (subst (λ x. is_opaque (after_byte p x) ≡ false) (sym (eqb-true b 63 here)) (query_ends p))
            | inr other ↦ markup_leaves (after_byte p b) q markup later (rw other at has)
          ]
    ]

pub slot_stays : (p : OpenPart) (slot : UrlSlot) → slot_at p ≡ Some slot → is_opaque p ≡ false → (is_opaque_path slot.place ≡ false) × (is_opaque (after_text p) ≡ false)
slot_stays p slot here other = grind (arith, nat_tests)

-- all slots where what is open is no opaque path, and those behind a `?`
abbrev Formed : Type 0 → List Given → Type 0
Formed Closed parts = (Closed → FormSlots parts) × QueryForm parts

later_form : (parts : List Given) (number : ℕ) (p : OpenPart) (slots : List UrlSlot) → later_slots number p parts ≡ Ok slots → placed slots parts ≡ parts → Formed (is_opaque p ≡ false) parts
later_form [] number p slots told same = ((λ other. tt), tt)
later_form (Markup bytes ∷ parts) number p slots told same =
    let (q, plain, is, rest) = later_markup number p bytes parts slots told in
    let later = later_form parts (number + 1) q slots rest (markup_places slots same) in
    ((λ other. later.0 (markup_stays p q bytes is other)), ((λ has. later.0 (markup_leaves p q bytes is has)), later.1))
later_form (Slot at ∷ parts) number p slots told same =
    let (slot, more, here, rest, are) = later_slot number p at parts slots told in
    let both = subst (λ l. placed l (Slot at ∷ parts) ≡ Slot at ∷ parts) are same in
    let later = later_form parts (number + 1) (after_text p) more rest (later_places more slot both) in
    ((λ other. (subst IsForm (sym (first_place more slot both)) (slot_stays p slot here other).0, later.0 (slot_stays p slot here other).1)), later.1)

-- ---- before the first slot

opened_form : (front : List ℕ) (p : OpenPart) → open_of front ≡ Some p → has_byte 63 front ≡ true → is_opaque p ≡ false
opened_form front p is has =
    elim (cases_Bool (ends_in_opaque_path front)) [
      | inl ends ↦ absurd (both_ways (has_byte 63 front) (opaque_end front ends).no_query has)
      | inr none ↦ let told : (if is_link front || has_address_scheme front then open_of_link front else None) ≡ Some p = sym (cond-false _ _ _ none) ∙ is in
          elim (cases_Bool (is_link front || has_address_scheme front)) [
            | inl link ↦ by_fragment (has_byte 35 front) (rw has at (sym (cond-true _ _ _ link) ∙ told))
            | inr other ↦ let clash : None ≡ Some p = sym (cond-false _ _ _ other) ∙ told in cc
          ]
    ]
  where
    by_fragment : (f : Bool) → (if f then Some Fragment else Some Query) ≡ Some p → is_opaque p ≡ false
    by_fragment true opened = subst (λ q. is_opaque q ≡ false) (part_is opened) refl
    by_fragment false opened = subst (λ q. is_opaque q ≡ false) (part_is opened) refl

first_form : (parts : List Given) (number : ℕ) (front : List ℕ) (slots : List UrlSlot) → first_slots number front parts ≡ Ok slots → placed slots parts ≡ parts → Formed (has_byte 63 front ≡ true) parts
first_form [] number front slots told same = ((λ has. tt), tt)
first_form (Markup bytes ∷ parts) number front slots told same =
    let later = first_form parts (number + 1) (front ++ bytes) slots (first_markup number front bytes parts slots told).1 (markup_places slots same) in
    ((λ has. later.0 (byte_before 63 front bytes has)), ((λ has. later.0 (byte_behind 63 front bytes has)), later.1))
first_form (Slot at ∷ parts) number front slots told same =
    let (p, is, rest) = first_slot number front at parts slots told in
    let later = later_form (Slot at ∷ parts) number p slots rest same in
    ((λ has. later.0 (opened_form front p is has)), later.1)

-- the slots of the query of parts that texts fill
pub query_form : (parts own : List Given) (texts : List (List ℕ)) → FillUrl parts texts → query_parts parts ≡ Some own → All FormSlots (pieces 38 own)
query_form parts own texts fills is =
    let (slots, told, fill) = told_slots (slots_of parts) parts texts fills in
    let form = behind_form (before_fragment_parts parts) (before_form 35 parts (first_form parts 0 [] slots told fill.1).1) in
    pieces_form 38 own (subst (λ o. FormSlots (unwrap_or o [])) is form)
