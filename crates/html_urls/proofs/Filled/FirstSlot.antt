-- The markup before the first slot, and what its text and the parts behind it do.
use Rattle.std.proofs.Common.{codes, ◌≡◌, ℕ, ◌<◌, Bool, true, false, ◌||◌, ◌==◌, nat_lt, List, [], ◌∷◌, ◌++◌, ◌≢◌, get_or, length, drop, Option, Some, None, is_some, All, sym, refl, ap, ◌∙◌, subst, append_assoc, append-nil, arith, if◌then◌else◌, inl, inr, ◌⊎◌}
use Rattle.std.specs.List.{list_all}
use Rattle.std.proofs.lemmas.Bool.{and_parts, cases_Bool, cond-true, cond-false, lt-leb}
use Rattle.std.proofs.lemmas.Bool.Decides.{nat_tests}
use Rattle.std.proofs.lemmas.List.Elements.{All-nil, All-head, All-weaker}
use Rattle.url.proofs.InputLemmas.{All_from_list_all}
use Rattle.html_urls.proofs.Paths.Opening.{all_right}
use Rattle.url.specs.Input.{rsplit_once, split_once, trim_c0_control_and_space}
use Rattle.url.specs.Path.{dot_count}
use Rattle.url.specs.Parts.{Parts}
use Rattle.url.specs.Parser.{parse_url}
use Rattle.url.proofs.HostLemmas.{none_from_list_any}
use Rattle.html_urls.specs.Components.{component, component_at}
use Rattle.html_urls.specs.Heads.{on_ok}
use Rattle.html_urls.specs.Hosts.{FixesHost, IsFirstSegment, IsWebBase, absolute, hosted, is_first_byte, is_first_segment, relative, rooted}
use Rattle.html_urls.specs.Inputs.{IsNot, IsVisible, kept, kept_rest, EndsVisibly}
use Rattle.html_urls.specs.Links.{is_link}
use Rattle.html_urls.specs.Parts.OpaquePaths.{BeginsOpaque}
use Rattle.html_urls.specs.Parts.Paths.{FitsSegment, IsPathText}
use Rattle.html_urls.specs.Parts.Rests.{path_of}
use Rattle.html_urls.specs.Parts.Segments.{HasNoDotSegments, last_segment}
use Rattle.html_urls.specs.Places.{EndsIn, Fits, SuitsPlace, goes_on}
use Rattle.html_urls.specs.declared.open_part.OpenPart.{OpenPart}
use Rattle.html_urls.specs.declared.open_part.OpenPart.TheVariants.{NewSegment, DotSegment, NamedSegment, FirstSegment, OpaquePath, Query, Fragment}
use Rattle.html_urls.specs.declared.parts.UrlSlot.{UrlSlot}
use Rattle.html_urls.specs.declared.place.UrlPlace.{UrlPlace}
use Rattle.html_urls.specs.declared.place.UrlPlace.TheVariants as place
use Rattle.html_urls.specs.OpenParts.{after_front, as_first, ends_in_opaque_path, has_address_scheme, has_byte, after_text, is_first, is_opaque, is_fixed, open_of, open_of_link, slot_at}
use Rattle.html_urls.specs.Slots.{is_plain_byte, may_fill}
use Rattle.html_urls.proofs.Splits.{all_visible, kept_nothing, kept_visible}
use Rattle.html_urls.proofs.Paths.PathSegments.{last_of_whole, last_whole}
use Rattle.html_urls.proofs.Places.FixedHosts.{byte_found, fixed_front}
use Rattle.html_urls.proofs.Places.OpaqueFronts.{begins_opaque}
use Rattle.html_urls.proofs.Places.UrlLaw.{url_law}
use Rattle.html_urls.proofs.Filled.OpenSegments.{path_front, Open, closes, in_path}
use Rattle.html_urls.proofs.Filled.LaterSlots.{Good, path_over_text, text_good}

-- ---- what the front ends in

pub kept_front : (front : List ℕ) → All IsVisible front → kept front ≡ front
unfolding trim_c0_control_and_space
kept_front [] visible = kept_nothing
kept_front (x ∷ xs) visible =
    let above : 32 < x = All-head IsVisible x xs visible in
    ap (λ n. kept_rest (drop n (x ∷ xs))) (cond-false _ _ _ (lt-leb x 32 above)) ∙ ap kept_rest (sym (append-nil (x ∷ xs))) ∙ kept_visible (x ∷ xs) [] visible ∙ ap (λ l. x ∷ xs ++ l) kept_nothing ∙ append-nil (x ∷ xs)

-- the part in which a slot stands where this is open
abbrev pub place_at : OpenPart → UrlPlace
place_at NewSegment = place.Path
place_at DotSegment = place.Path
place_at NamedSegment = place.Path
place_at FirstSegment = place.Path
place_at OpaquePath = place.OpaquePath
place_at Query = place.Query
place_at Fragment = place.Fragment

pub slot_place : (p : OpenPart) (slot : UrlSlot) → slot_at p ≡ Some slot → slot.place ≡ place_at p
slot_place p slot here = grind (arith, nat_tests)

-- what is known where a slot stands behind the front
pub record StandsIn (front : List ℕ) (p : OpenPart) : Type 0 where
  pub ends : EndsIn (place_at p) front
  pub known : in_path p ≡ true → Open p (last_segment (kept front))
  pub first : in_path p ≡ true → IsFirstSegment (kept front) → is_first p ≡ true

pub plain_visible : (front : List ℕ) → All (λ b. is_plain_byte b ≡ true) front → All IsVisible front
plain_visible front plain = All-weaker (λ b. is_plain_byte b ≡ true) IsVisible (λ b passes. grind (arith, nat_tests)) front plain

path_text : (xs : List ℕ) → All (λ b. is_plain_byte b ≡ true) xs → has_byte 35 xs ≡ false → has_byte 63 xs ≡ false → IsPathText xs
path_text xs plain no_fragment no_query i d within =
    grind (arith, nat_tests, plain i d within, none_from_list_any (λ b. b == 35) xs no_fragment i d within, none_from_list_any (λ b. b == 63) xs no_query i d within)

-- a front that fixes the host is no first segment alone
no_slash_in : (before rest : List ℕ) → All (λ b. is_first_byte b ≡ true) (before ++ 47 ∷ rest) → ⊥
no_slash_in before rest bytes =
    let clash = All-head (λ b. is_first_byte b ≡ true) 47 rest (all_right (λ b. is_first_byte b ≡ true) before (47 ∷ rest) bytes) in cc

no_first : {front : List ℕ} → FixesHost front → All (λ b. is_first_byte b ≡ true) front → ⊥
no_first (absolute scheme host rest is_web some other) bytes = no_slash_in (scheme ++ codes "://" ++ host) rest bytes
no_first (hosted host rest some other) bytes = no_slash_in (codes "//" ++ host) rest bytes
no_first (rooted rest other) bytes = no_slash_in [] rest bytes
no_first (relative first rest some others) bytes = no_slash_in first rest bytes

-- a front that ends in its path, where this is open
in_path_stands : (front : List ℕ) (p : OpenPart) (slot : UrlSlot) → kept front ≡ front → EndsVisibly front → IsPathText front → in_path p ≡ true → Open p (last_segment front) → FixesHost front ⊎ IsFirstSegment front →
    (IsFirstSegment front → is_first p ≡ true) → slot_at p ≡ Some slot → StandsIn front p
in_path_stands front p slot kept_is ends text path opened fixed first here =
    let place : place_at p ≡ place.Path = grind (arith, nat_tests) in
    record {
      ends = subst (λ at. EndsIn at front) (sym place) (record {
        ends = ends;
        plain = subst IsPathText (sym kept_is) text;
        fixed = subst (λ f. FixesHost f ⊎ IsFirstSegment f) (sym kept_is) fixed;
        resolved = ap (λ f. dot_count (last_segment f)) kept_is ∙ closes p (last_segment front) path (grind (arith, nat_tests)) opened;
      });
      known = λ _. subst (λ f. Open p (last_segment f)) (sym kept_is) opened;
      first = λ _ segment. first (subst IsFirstSegment kept_is segment);
    }

path_stands : (front : List ℕ) (p : OpenPart) (slot : UrlSlot) → kept front ≡ front → EndsVisibly front → IsPathText front → is_fixed front ≡ true → after_front NewSegment front ≡ p → slot_at p ≡ Some slot → StandsIn front p
path_stands front p slot kept_is ends text fixed is here =
    let (path, opened) = subst (λ q. (in_path q ≡ true) × Open q (last_segment front)) is (path_front front [] NewSegment text (All-nil (IsNot 47)) refl refl) in
    in_path_stands front p slot kept_is ends text path opened (inl (fixed_front front fixed)) (λ segment. absurd (no_first (fixed_front front fixed) segment.1)) here

-- a first segment alone
first_is : (front : List ℕ) → is_first_segment front ≡ true → IsFirstSegment front
first_is front is =
    let both = and_parts (nat_lt 0 (length front)) (list_all is_first_byte front) is in
    (long both.0, All_from_list_all is_first_byte front both.1)
  where
    long : nat_lt 0 (length front) ≡ true → 0 < length front
    long some = grind (arith, nat_tests)

first_last : (front : List ℕ) → IsFirstSegment front → last_segment front ≡ front
first_last front segment = last_of_whole front (All-weaker (λ b. is_first_byte b ≡ true) (IsNot 47) (λ b passes same. let clash = rw same at passes in cc) front segment.1)

first_stands : (front : List ℕ) (p : OpenPart) (slot : UrlSlot) → kept front ≡ front → EndsVisibly front → IsPathText front → IsFirstSegment front → as_first (after_front NewSegment front) ≡ p → slot_at p ≡ Some slot → StandsIn front p
first_stands front p slot kept_is ends text segment is here =
    let (path, opened) = path_front front [] NewSegment text (All-nil (IsNot 47)) refl refl in
    let (first_path, first_opened, is_it) = by_part (after_front NewSegment front) p path opened is here in
    in_path_stands front p slot kept_is ends text first_path first_opened (inr segment) (λ _. is_it) here
  where
    by_part : (q p : OpenPart) → in_path q ≡ true → Open q (last_segment front) → as_first q ≡ p → slot_at p ≡ Some slot → (in_path p ≡ true) × Open p (last_segment front) × (is_first p ≡ true)
    by_part NewSegment p path new is here = absurd (omega (arith, segment.0, ap length (sym (first_last front segment) ∙ new)))
    by_part DotSegment p path open_still is here = let none : slot_at DotSegment ≡ Some slot = ap slot_at is ∙ here in absurd (cc)
    by_part NamedSegment p path named is here = subst (λ r. (in_path r ≡ true) × Open r (last_segment front) × (is_first r ≡ true)) is (refl, named, refl)
    by_part FirstSegment p path named is here = subst (λ r. (in_path r ≡ true) × Open r (last_segment front) × (is_first r ≡ true)) is (refl, named, refl)
    by_part OpaquePath p path known is here = cc
    by_part Query p path known is here = cc
    by_part Fragment p path known is here = cc

link_stands : (front : List ℕ) (p : OpenPart) (slot : UrlSlot) → All (λ b. is_plain_byte b ≡ true) front → open_of_link front ≡ Some p → slot_at p ≡ Some slot → StandsIn front p
link_stands [] p slot plain is here = cc
link_stands (b ∷ bytes) p slot plain is here = by_tests (has_byte 35 front) (has_byte 63 front) (is_fixed front) (is_first_segment front) refl refl refl refl is
  where
    front : List ℕ
    front = b ∷ bytes

    visible : All IsVisible front
    visible = plain_visible front plain

    ends : EndsVisibly front
    ends = all_visible front visible (omega arith)

    mark_kept : (mark : ℕ) → is_some (split_once mark (kept front)).1 ≡ has_byte mark front
    mark_kept mark = ap (λ f. is_some (split_once mark f).1) (kept_front front visible) ∙ sym (byte_found mark front)

    by_tests : (f q x s : Bool) → has_byte 35 front ≡ f → has_byte 63 front ≡ q → is_fixed front ≡ x → is_first_segment front ≡ s →
        (if f then Some Fragment else (if q then Some Query else (if x then Some (after_front NewSegment front) else (if s then Some (as_first (after_front NewSegment front)) else None)))) ≡ Some p → StandsIn front p
    by_tests true q x s fragment query fixed segment found =
        let same : Fragment ≡ p = cc in
        subst (StandsIn front) same (record { ends = record { ends = ends; fragment = mark_kept 35 ∙ fragment }; known = λ path. cc; first = λ path. cc })
    by_tests false true x s fragment query fixed segment found =
        let same : Query ≡ p = cc in
        subst (StandsIn front) same (record { ends = record { ends = ends; query = mark_kept 63 ∙ query; no_fragment = mark_kept 35 ∙ fragment }; known = λ path. cc; first = λ path. cc })
    by_tests false false true s fragment query fixed segment found = path_stands front p slot (kept_front front visible) ends (path_text front plain fragment query) fixed (cc) here
    by_tests false false false true fragment query fixed segment found = first_stands front p slot (kept_front front visible) ends (path_text front plain fragment query) (first_is front segment) (cc) here
    by_tests false false false false fragment query fixed segment found = cc

opaque_stands : (front : List ℕ) → All (λ b. is_plain_byte b ≡ true) front → ends_in_opaque_path front ≡ true → StandsIn front OpaquePath
opaque_stands [] plain ends = cc
opaque_stands (b ∷ bytes) plain ends =
    let visible = plain_visible (b ∷ bytes) plain in
    record {
      ends = record { ends = all_visible (b ∷ bytes) visible (omega arith); opaque = subst BeginsOpaque (sym (kept_front (b ∷ bytes) visible)) (begins_opaque (b ∷ bytes) plain ends) };
      known = λ path. cc;
      first = λ path. cc;
    }

pub front_stands : (front : List ℕ) (p : OpenPart) (slot : UrlSlot) → All (λ b. is_plain_byte b ≡ true) front → open_of front ≡ Some p → slot_at p ≡ Some slot → StandsIn front p
front_stands front p slot plain is here =
    elim (cases_Bool (ends_in_opaque_path front)) [
      | inl ends ↦ let same : OpaquePath ≡ p = part_is (sym (cond-true _ _ _ ends) ∙ is) in subst (StandsIn front) same (opaque_stands front plain ends)
      | inr none ↦ let told : (if is_link front || has_address_scheme front then open_of_link front else None) ≡ Some p = sym (cond-false _ _ _ none) ∙ is in
          elim (cases_Bool (is_link front || has_address_scheme front)) [ inl link ↦ link_stands front p slot plain (sym (cond-true _ _ _ link) ∙ told) here | inr other ↦ let clash : None ≡ Some p = sym (cond-false _ _ _ other) ∙ told in cc ]
    ]
  where
    part_is : {q : OpenPart} → Some q ≡ Some p → q ≡ p
    part_is same = cc

-- ---- a text in the first slot

root_last : last_segment (47 ∷ []) ≡ []
unfolding rsplit_once
root_last = refl

one_dot : dot_count (46 ∷ []) ≡ 1
unfolding dot_count
one_dot = refl

path_fits : (front : List ℕ) (p : OpenPart) (slot : UrlSlot) (text rest : List ℕ) → StandsIn front p → in_path p ≡ true → slot_at p ≡ Some slot → may_fill slot text ≡ true → Good (after_text p) rest → FitsSegment front text rest
path_fits front p slot text rest stands path here may good =
    let last = last_segment (kept front) in
    let whole = text_good p slot text rest here may good path in
    record {
      plain = (good (text_in_path p path)).plain;
      resolved = subst HasNoDotSegments (ap (λ x. last ++ x) (path_over_text text rest) ∙ sym (append_assoc last (component text) (path_of rest))) (whole.resolved last (last_whole (kept front)) (stands.known path));
      scheme = λ segment. (good (text_in_path p path)).scheme (first_after p (stands.first path segment));
      some = λ root. some_text p here path (subst (Open p) (ap last_segment root ∙ root_last) (stands.known path));
    }
  where
    text_in_path : (p : OpenPart) → in_path p ≡ true → in_path (after_text p) ≡ true
    text_in_path p path = grind (arith, nat_tests)

    first_after : (p : OpenPart) → is_first p ≡ true → is_first (after_text p) ≡ true
    first_after p first = grind (arith, nat_tests)

    some_text : (p : OpenPart) → slot_at p ≡ Some slot → in_path p ≡ true → Open p [] → 0 < length text
    some_text p here path known = grind (arith, nat_tests, nat_lt, one_dot)

-- what an opaque path needs of the rest
pub record OpaqueRest (rest : List ℕ) : Type 0 where
  pub visible : All IsVisible (path_of rest)
  pub first : get_or (path_of rest) 0 0 ≢ 47

abbrev pub Opaque : OpenPart → List ℕ → Type 0
Opaque p rest = is_opaque p ≡ true → OpaqueRest rest

text_fits : (front : List ℕ) (p : OpenPart) (slot : UrlSlot) (text rest : List ℕ) → StandsIn front p → slot_at p ≡ Some slot → may_fill slot text ≡ true → Good (after_text p) rest → Opaque (after_text p) rest → Fits (place_at p) front text rest
text_fits front Query slot text rest stands here may good opaque = tt
text_fits front Fragment slot text rest stands here may good opaque = tt
text_fits front OpaquePath slot text rest stands here may good opaque = let is = opaque refl in record { visible = is.visible; opaque = λ none. is.first }
text_fits front NewSegment slot text rest stands here may good opaque = path_fits front NewSegment slot text rest stands refl here may good
text_fits front DotSegment slot text rest stands here may good opaque = cc
text_fits front NamedSegment slot text rest stands here may good opaque = path_fits front NamedSegment slot text rest stands refl here may good
text_fits front FirstSegment slot text rest stands here may good opaque = path_fits front FirstSegment slot text rest stands refl here may good

-- ---- the URL

any_suits : (at : UrlPlace) (base : Option Parts) → IsWebBase base → SuitsPlace at base
any_suits at base web = grind (arith, nat_tests)

-- with these texts it is the URL of the front, of which the part goes on
pub one_url : (base : Option Parts) (front : List ℕ) (p : OpenPart) (slot : UrlSlot) (text rest : List ℕ) → IsWebBase base → StandsIn front p → slot_at p ≡ Some slot → may_fill slot text ≡ true → Good (after_text p) rest → Opaque (after_text p) rest →
    parse_url base (front ++ (component_at (place_at p) text ++ rest)) ≡ on_ok (goes_on (place_at p) text rest) (parse_url base front)
one_url base front p slot text rest web stands here may good opaque =
    ap (parse_url base) (sym (append_assoc front (component_at (place_at p) text) rest))
    ∙ url_law (place_at p) base front text rest stands.ends (text_fits front p slot text rest stands here may good opaque) (any_suits (place_at p) base web)
