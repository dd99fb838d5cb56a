-- The parts behind a slot in an opaque path: their markup begins no other path.
use Rattle.std.proofs.Common.{◌≡◌, ◌≢◌, ℕ, ◌+◌, true, false, List, [], ◌∷◌, ◌++◌, get_or, Some, Ok, All, refl, sym, ap, ◌∙◌, subst, arith, append-nil, inl, inr}
use Rattle.std.proofs.lemmas.Bool.{cases_eq}
use Rattle.std.proofs.lemmas.Bool.Decides.{nat_tests}
use Rattle.std.proofs.lemmas.List.Elements.{All-head}
use Rattle.url.specs.Input.{split_once}
use Rattle.html_urls.specs.Components.{component_at}
use Rattle.html_urls.specs.Inputs.{IsNot, IsVisible, kept_rest}
use Rattle.html_urls.specs.OpenParts.{has_slash, is_opaque, after_text}
use Rattle.html_urls.specs.Parts.Rests.{path_of}
use Rattle.html_urls.specs.Slots.{Given, Markup, Slot, is_plain_byte, later_slots, no_parts, url_of}
use Rattle.html_urls.specs.declared.open_part.OpenPart.{OpenPart}
use Rattle.html_urls.specs.declared.parts.UrlSlot.{UrlSlot}
use Rattle.html_urls.proofs.Components.{written_visible, written_without}
use Rattle.html_urls.proofs.Filled.FirstSlot.{Opaque}
use Rattle.html_urls.proofs.Filled.LaterSlots.{fragment_ends, path_nothing, path_over, path_over_byte, query_ends}
use Rattle.html_urls.proofs.Filled.Told.{later_markup, later_slash, later_slot}
use Rattle.html_urls.proofs.Links.LinkLaw.{front_of}
use Rattle.html_urls.proofs.Splits.{kept_nothing, kept_visible}
use Rattle.html_urls.proofs.OpenEscapes.{plain_bytes}
use Rattle.html_urls.proofs.Paths.Opening.{all_left}
use Rattle.html_urls.proofs.Shapes.PlainParts.{ArePlain, url_visible}

-- ---- no white space stands in the path

visible_front : (mark : ℕ) (xs : List ℕ) → All IsVisible xs → All IsVisible (split_once mark xs).0
visible_front mark xs visible = let (rest, is) = front_of mark xs in all_left IsVisible (split_once mark xs).0 rest (subst (All IsVisible) is visible)

visible_path : (xs : List ℕ) → All IsVisible xs → All IsVisible (path_of xs)
visible_path xs visible =
    let kept_is : kept_rest xs ≡ xs = ap kept_rest (sym (append-nil xs)) ∙ kept_visible xs [] visible ∙ ap (λ l. xs ++ l) kept_nothing ∙ append-nil xs in
    subst (λ k. All IsVisible (split_once 63 (split_once 35 k).0).0) (sym kept_is) (visible_front 63 (split_once 35 xs).0 (visible_front 35 xs visible))

-- ---- nor does it begin with `/`

no_slash : (b : ℕ) (bytes : List ℕ) → has_slash (b ∷ bytes) ≡ false → b ≢ 47
no_slash b bytes none = grind (arith, nat_tests)

part_is : {p q : OpenPart} → Some p ≡ Some q → p ≡ q
part_is same = cc

text_stays : (p : OpenPart) → is_opaque p ≡ true → is_opaque (after_text p) ≡ true
text_stays p opaque = grind (arith, nat_tests)

first_byte : (b : ℕ) (rest : List ℕ) → is_plain_byte b ≡ true → b ≢ 47 → get_or (path_of (b ∷ rest)) 0 0 ≢ 47
first_byte b rest plain other =
    elim (cases_eq b 63) [
      | inl query ↦ subst (λ l. get_or l 0 0 ≢ 47) (sym (ap (λ x. path_of (x ∷ rest)) query ∙ query_ends rest)) (λ same. absurd (omega arith))
      | inr no_query ↦ elim (cases_eq b 35) [
        | inl fragment ↦ subst (λ l. get_or l 0 0 ≢ 47) (sym (ap (λ x. path_of (x ∷ rest)) fragment ∙ fragment_ends rest)) (λ same. absurd (omega arith))
        | inr no_fragment ↦ subst (λ l. get_or l 0 0 ≢ 47) (sym (path_over_byte b rest (grind (arith, nat_tests)) no_fragment no_query)) other
      ]
    ]

first_text : (c rest : List ℕ) → All (IsNot 47) c → get_or rest 0 0 ≢ 47 → get_or (c ++ rest) 0 0 ≢ 47
first_text [] rest none first = first
first_text (x ∷ c) rest none first = All-head (IsNot 47) x c none

later_first : (parts : List Given) (texts : List (List ℕ)) (number : ℕ) (p : OpenPart) (slots : List UrlSlot) → later_slots number p parts ≡ Ok slots → is_opaque p ≡ true → get_or (path_of (url_of parts texts)) 0 0 ≢ 47
later_first [] texts number p slots told opaque = subst (λ l. get_or l 0 0 ≢ 47) (sym path_nothing) (λ same. absurd (omega arith))
later_first (Markup [] ∷ parts) texts number p slots told opaque =
    let (q, plain, is, rest) = later_markup number p [] parts slots told in later_first parts texts (number + 1) q slots rest (subst (λ r. is_opaque r ≡ true) (part_is is) opaque)
later_first (Markup (b ∷ bytes) ∷ parts) texts number p slots told opaque =
    let (q, plain, is, rest) = later_markup number p (b ∷ bytes) parts slots told in
    first_byte b (bytes ++ url_of parts texts) (All-head (λ b. is_plain_byte b ≡ true) b bytes (plain_bytes (b ∷ bytes) (no_parts parts) plain)) (no_slash b bytes (later_slash number p (b ∷ bytes) parts slots told opaque))
later_first (Slot at ∷ parts) [] number p slots told opaque =
    let (slot, more, here, rest, are) = later_slot number p at parts slots told in later_first parts [] (number + 1) (after_text p) more rest (text_stays p opaque)
later_first (Slot at ∷ parts) (text ∷ texts) number p slots told opaque =
    let (slot, more, here, rest, are) = later_slot number p at parts slots told in
    subst (λ l. get_or l 0 0 ≢ 47)
    (sym (path_over (component_at at text) (url_of parts texts) (written_visible at text) (written_without 35 refl at text) (written_without 63 refl at text)))
    (first_text (component_at at text) (path_of (url_of parts texts)) (written_without 47 refl at text) (later_first parts texts (number + 1) (after_text p) more rest (text_stays p opaque)))

pub later_opaque : (parts : List Given) (texts : List (List ℕ)) (number : ℕ) (p : OpenPart) (slots : List UrlSlot) → ArePlain parts → later_slots number p parts ≡ Ok slots → Opaque p (url_of parts texts)
later_opaque parts texts number p slots plain told opaque = record { visible = visible_path (url_of parts texts) (url_visible parts texts plain); first = later_first parts texts number p slots told opaque }
