-- Parsing the URL of the texts is filling the shape of its parts.
use Rattle.std.proofs.Common.{◌≡◌, ℕ, ◌+◌, false, List, [], ◌∷◌, ◌++◌, Option, Some, Ok, IfOk, is_some, sym, refl, ap, ◌∙◌, subst, ◌⊎◌, inl, inr, append_assoc, append-nil, arith}
use Rattle.std.proofs.lemmas.Bool.Decides.{nat_tests}
use Rattle.std.proofs.lemmas.Bool.{both_ways, cases_Bool}
use Rattle.url.specs.declared.scheme.SchemeType.TheVariants.{NotSpecial, SpecialNotFile}
use Rattle.url.specs.declared.sets.TheConstants.{OPAQUE_PATH, PATH}
use Rattle.url.specs.Head.{without_tail}
use Rattle.url.specs.Input.{lowercase, split_once}
use Rattle.url.specs.Scheme.{scheme_type}
use Rattle.url.specs.Parts.{Parts}
use Rattle.url.specs.Parser.{Parsed, parse_url}
use Rattle.html_urls.specs.declared.open_part.OpenPart.{OpenPart}
use Rattle.html_urls.specs.declared.parts.UrlSlot.{UrlSlot}
use Rattle.html_urls.specs.declared.place.UrlPlace.{UrlPlace}
use Rattle.html_urls.specs.declared.place.UrlPlace.TheVariants as place
use Rattle.html_urls.specs.Components.{component_at}
use Rattle.html_urls.specs.Heads.{on_ok}
use Rattle.html_urls.specs.Hosts.{IsWebBase}
use Rattle.html_urls.specs.Inputs.{kept}
use Rattle.html_urls.specs.OpenParts.{after_text, open_of, slot_at}
use Rattle.html_urls.specs.Places.{EndsIn, goes_on}
use Rattle.html_urls.specs.Shapes.{fill, from_slot, front_of, path_set}
use Rattle.html_urls.specs.Slots.{FillParts, FillSlots, FillUrl, Given, Markup, Slot, first_slots, later_slots, placed, slots_of, url_of}
use Rattle.html_urls.specs.Parts.OpaquePaths.{IsOpaqueScheme}
use Rattle.html_urls.proofs.Filled.FirstSlot.{place_at, slot_place, front_stands, kept_front, one_url, plain_visible}
use Rattle.html_urls.proofs.Filled.LaterSlots.{later_good}
use Rattle.html_urls.proofs.Filled.Told.{first_markup, first_place, first_slot, later_places, later_slot, markup_places, told_slots}
use Rattle.html_urls.proofs.Filled.OpaqueRests.{later_opaque}
use Rattle.html_urls.proofs.Paths.OpaquePaths.{opaque_type, opaque_front}
use Rattle.html_urls.proofs.Paths.PathLaw.{IsSpecial, path_bare, path_special}
use Rattle.html_urls.proofs.Shapes.Fills.{path_keeps}
use Rattle.html_urls.proofs.Shapes.PathShapes.{HasSet, path_shape, split_none}
use Rattle.html_urls.proofs.Shapes.PlainParts.{ArePlain, first_plain, front_plain, later_plain}
use Rattle.html_urls.proofs.Shapes.TailShapes.{HasThatShape, fragment_shape, front_fragment, front_query, markup_shape, query_shapes}

-- the first slot, and what is open there
pub record Reached (front : List ℕ) (parts : List Given) (slots : List UrlSlot) : Type 0 where
  pub part : OpenPart
  pub slot : UrlSlot
  pub at : UrlPlace
  pub later : List Given
  pub more : List UrlSlot
  pub number : ℕ
  pub from : from_slot parts ≡ Slot at ∷ later
  pub opened : open_of (front ++ front_of parts) ≡ Some part
  pub here : slot_at part ≡ Some slot
  pub rest : later_slots number (after_text part) later ≡ Ok more
  pub are : slots ≡ slot ∷ more

pub reached : (parts : List Given) (number : ℕ) (front : List ℕ) (slots : List UrlSlot) → first_slots number front parts ≡ Ok slots → ((from_slot parts ≡ []) × (slots ≡ [])) ⊎ Reached front parts slots
reached [] number front slots told = inl (refl, cc)
reached (Markup bytes ∷ parts) number front slots told =
    elim (reached parts (number + 1) (front ++ bytes) slots (first_markup number front bytes parts slots told).1) [
      | inl none ↦ inl none
      | inr found ↦ inr (record { part = found.part; slot = found.slot; at = found.at; later = found.later; more = found.more; number = found.number; from = found.from; opened = ap open_of (sym (append_assoc front bytes (front_of parts))) ∙ found.opened; here = found.here; rest = found.rest; are = found.are })
    ]
reached (Slot at ∷ parts) number front slots told =
    let (part, is, rest) = first_slot number front at parts slots told in
    let (slot, more, here, after, are) = later_slot number part at parts slots rest in
    inr (record { part = part; slot = slot; at = at; later = parts; more = more; number = number + 1; from = refl; opened = ap open_of (append-nil front) ∙ is; here = here; rest = after; are = are })

-- ---- a slot, and neither a query nor a fragment before it

-- the places of the slots from the first one on
from_places : (parts : List Given) (slots : List UrlSlot) → placed slots parts ≡ parts → placed slots (from_slot parts) ≡ from_slot parts
from_places [] slots same = same
from_places (Markup bytes ∷ parts) slots same = from_places parts slots (markup_places slots same)
from_places (Slot at ∷ parts) slots same = same

path_set_is : (parsed : Parsed Parts) → IfOk parsed IsSpecial → HasSet PATH parsed
path_set_is parsed special = grind (arith, nat_tests)

slot_shape : (base : Option Parts) (parts : List Given) (texts : List (List ℕ)) (slots : List UrlSlot) → IsWebBase base → ArePlain parts → is_some (front_fragment parts) ≡ false → is_some (front_query parts) ≡ false →
    Reached [] parts slots → FillParts parts texts slots → HasThatShape base parts texts
slot_shape base parts texts slots web plain no_fragment no_query found fill = with_texts texts (subst (λ l. FillSlots l texts) found.are fill.0)
  where
    front : List ℕ
    front = front_of parts

    kept_is : kept front ≡ front
    kept_is = kept_front front (plain_visible front (front_plain parts plain))

    no_mark : is_some (split_once 63 (kept front)).1 ≡ false
    no_mark = ap (λ l. is_some (split_once 63 l).1) (kept_is ∙ sym (split_none 35 front no_fragment)) ∙ no_query

    same_places : placed (found.slot ∷ found.more) (Slot found.at ∷ found.later) ≡ Slot found.at ∷ found.later
    same_places =
        subst (λ l. placed l (Slot found.at ∷ found.later) ≡ Slot found.at ∷ found.later) found.are
        (subst (λ l. placed slots l ≡ l) found.from (from_places parts slots fill.1))

    place_is : found.at ≡ place_at found.part
    place_is = first_place found.more found.slot same_places ∙ slot_place found.part found.slot found.here

    opaque_set : (scheme : List ℕ) → IsOpaqueScheme scheme → path_set (scheme_type (lowercase scheme)) ≡ OPAQUE_PATH
    opaque_set scheme known = ap path_set (opaque_type scheme known)

    by_place : (later : List Given) (text : List ℕ) (texts : List (List ℕ)) → ArePlain later → (at : UrlPlace) → from_slot parts ≡ Slot at ∷ later → EndsIn at front →
        parse_url base (front ++ (component_at at text ++ url_of later texts)) ≡ on_ok (goes_on at text (url_of later texts)) (parse_url base front) → HasThatShape base parts (text ∷ texts)
    by_place later text texts later_plain place.Path from ends goes =
        path_shape PATH place.Path base parts later text texts (path_keeps SpecialNotFile) later_plain from no_fragment no_query (path_bare base front web ends)
        (path_set_is (parse_url base front) (path_special base front web ends)) goes
    by_place later text texts later_plain place.OpaquePath from ends goes =
        let opened = opaque_front base front ends in
        path_shape OPAQUE_PATH place.OpaquePath base parts later text texts (path_keeps NotSpecial) later_plain from no_fragment no_query
        (subst (λ (parsed : Parsed Parts). parsed ≡ on_ok without_tail parsed) (sym opened.alone) refl)
        (subst (HasSet OPAQUE_PATH) (sym opened.alone) (opaque_set opened.scheme opened.known)) goes
    by_place later text texts later_plain place.Query from ends goes = absurd (both_ways _ no_mark ends.query)
    by_place later text texts later_plain place.Fragment from ends goes = absurd (both_ways _ no_fragment (ap (λ l. is_some (split_once 35 l).1) (sym kept_is) ∙ ends.fragment))

    with_texts : (texts : List (List ℕ)) → FillSlots (found.slot ∷ found.more) texts → HasThatShape base parts texts
    with_texts [] fill = absurd fill
    with_texts (text ∷ texts) fill =
        let stands = front_stands front found.part found.slot (front_plain parts plain) found.opened found.here in
        let plain_later = later_plain found.later found.number (after_text found.part) found.more found.rest in
        by_place found.later text texts plain_later (place_at found.part) (subst (λ at. from_slot parts ≡ Slot at ∷ found.later) place_is found.from) stands.ends
        (one_url base front found.part found.slot text (url_of found.later texts) web stands found.here fill.0 (later_good found.later texts found.more found.number (after_text found.part) found.rest (fill.1, later_places found.more found.slot same_places))
        (later_opaque found.later texts found.number (after_text found.part) found.more plain_later found.rest))

-- parts that texts fill are plain
pub filled_plain : (parts : List Given) (texts : List (List ℕ)) → FillUrl parts texts → ArePlain parts
filled_plain parts texts fills = let (slots, told, fill) = told_slots (slots_of parts) parts texts fills in first_plain parts 0 [] slots told

-- THE SHAPE LAW: the URL of the texts is the shape of the parts, filled
pub shape_law : (base : Option Parts) (parts : List Given) (texts : List (List ℕ)) → IsWebBase base → FillUrl parts texts → HasThatShape base parts texts
shape_law base parts texts web fills =
    let (slots, told, fill) = told_slots (slots_of parts) parts texts fills in
    let plain = first_plain parts 0 [] slots told in
    elim (cases_Bool (is_some (front_fragment parts))) [
      | inl fragment ↦ fragment_shape base parts texts plain fragment
      | inr no_fragment ↦ elim (cases_Bool (is_some (front_query parts))) [
        | inl query ↦ query_shapes base parts texts plain query
        | inr no_query ↦ elim (reached parts 0 [] slots told) [ inl none ↦ markup_shape base parts texts plain none.0 | inr found ↦ slot_shape base parts texts slots web plain no_fragment no_query found fill ]
      ]
    ]
