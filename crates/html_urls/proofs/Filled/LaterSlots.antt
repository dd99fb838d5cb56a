-- The parts behind a slot, with texts that fill them, hold no dot segments.
use Rattle.std.proofs.Common.{◌≡◌, ◌≢◌, ℕ, ◌+◌, ◌<◌, true, false, ◌&&◌, ◌==◌, nat_lt, List, [], ◌∷◌, ◌++◌, length, Some, None, Ok, All, sym, refl, ap, ◌∙◌, subst, append_assoc, append-nil, arith, inl, inr}
use Rattle.std.proofs.lemmas.Bool.{cases_Bool, and_parts}
use Rattle.std.proofs.lemmas.Bool.Decides.{nat_tests}
use Rattle.std.proofs.lemmas.List.Elements.{All-nil, All-cons, All-head, All-tail, All-append, All-push, All-weaker}
use Rattle.url.specs.Input.{split_once, strip_tabs_and_new_lines}
use Rattle.url.specs.Path.{dot_count}
use Rattle.html_urls.specs.Components.{component, component_at, is_component_byte}
use Rattle.html_urls.specs.Inputs.{IsNot, IsVisible}
use Rattle.html_urls.specs.Links.{has_scheme, is_mark}
use Rattle.html_urls.specs.Parts.Paths.{IsPathText, is_path_byte}
use Rattle.html_urls.specs.Parts.Rests.{path_of}
use Rattle.html_urls.specs.Parts.Segments.{HasNoDotSegments, IsNoDotSegment}
use Rattle.html_urls.specs.declared.open_part.OpenPart.{OpenPart}
use Rattle.html_urls.specs.declared.open_part.OpenPart.TheVariants.{NewSegment, DotSegment, NamedSegment, FirstSegment, OpaquePath, Query, Fragment}
use Rattle.html_urls.specs.declared.place.UrlPlace.{UrlPlace}
use Rattle.html_urls.specs.declared.place.UrlPlace.TheVariants as place
use Rattle.html_urls.specs.declared.parts.UrlSlot.{UrlSlot}
use Rattle.html_urls.specs.OpenParts.{after_byte, after_segment_byte, after_markup, after_text, ends_scheme, is_end, is_first, may_be_dots, slot_at}
use Rattle.html_urls.specs.Slots.{FillParts, FillSlots, Given, Markup, Slot, is_plain_byte, later_slots, may_fill, no_parts, placed, url_of}
use Rattle.html_urls.proofs.Components.{component_bytes, component_visible, component_without}
use Rattle.html_urls.proofs.Splits.{kept_visible, split_clear}
use Rattle.html_urls.proofs.Paths.FirstSegment.{mark_passed, text_passed}
use Rattle.html_urls.proofs.Paths.PathSegments.{split_at, split_one}
use Rattle.html_urls.proofs.Filled.NamedTexts.{text_names}
use Rattle.html_urls.proofs.OpenEscapes.{plain_bytes}
use Rattle.html_urls.proofs.Filled.Told.{first_place, later_markup, later_nothing, later_places, later_scheme, later_slot, markup_places}
use Rattle.html_urls.proofs.Filled.OpenSegments.{PathByte, inside, path_byte, slash, tail, IsNamed, Open, after_segment, closes, in_path, named_more, segment_in_path}

-- ---- the path of a rest

pub path_over : (x rest : List ℕ) → All IsVisible x → All (IsNot 35) x → All (IsNot 63) x → path_of (x ++ rest) ≡ x ++ path_of rest
path_over x rest visible no_fragment no_query = grind (arith, nat_tests, kept_visible, split_clear)

pub path_over_text : (text rest : List ℕ) → path_of (component text ++ rest) ≡ component text ++ path_of rest
path_over_text text rest = path_over (component text) rest (component_visible text) (component_without 35 refl text) (component_without 63 refl text)

pub one_visible : (b : ℕ) → 32 < b → All IsVisible (b ∷ [])
one_visible b above = All-cons IsVisible b [] above (All-nil IsVisible)

pub one_not : (mark b : ℕ) → b ≢ mark → All (IsNot mark) (b ∷ [])
one_not mark b other = All-cons (IsNot mark) b [] other (All-nil (IsNot mark))

pub path_over_byte : (b : ℕ) (rest : List ℕ) → 32 < b → b ≢ 35 → b ≢ 63 → path_of (b ∷ rest) ≡ b ∷ path_of rest
path_over_byte b rest above no_fragment no_query = path_over (b ∷ []) rest (one_visible b above) (one_not 35 b no_fragment) (one_not 63 b no_query)

pub query_ends : (rest : List ℕ) → path_of (63 ∷ rest) ≡ []
unfolding split_once
query_ends rest = ap (λ k. (split_once 63 (split_once 35 k).0).0) (kept_visible (63 ∷ []) rest (one_visible 63 (omega arith)))

pub fragment_ends : (rest : List ℕ) → path_of (35 ∷ rest) ≡ []
unfolding split_once
fragment_ends rest = ap (λ k. (split_once 63 (split_once 35 k).0).0) (kept_visible (35 ∷ []) rest (one_visible 35 (omega arith)))

pub path_nothing : path_of [] ≡ []
unfolding strip_tabs_and_new_lines split_once
path_nothing = refl

-- ---- a rest that is good behind an open segment

pub record GoodRest (p : OpenPart) (rest : List ℕ) : Type 0 where
  pub plain : IsPathText (path_of rest)
  pub resolved : (s : List ℕ) → All (IsNot 47) s → Open p s → HasNoDotSegments (s ++ path_of rest)
  pub scheme : is_first p ≡ true → has_scheme (path_of rest) ≡ false

abbrev pub Good : OpenPart → List ℕ → Type 0
Good p rest = in_path p ≡ true → GoodRest p rest

-- a rest in which the path ends
ended : (p : OpenPart) (rest : List ℕ) → in_path p ≡ true → may_be_dots p ≡ false → path_of rest ≡ [] → GoodRest p rest
ended p rest path closed none = record {
  plain = subst IsPathText (sym none) (All-nil (λ b. is_path_byte b ≡ true));
  resolved = λ s whole is. subst HasNoDotSegments (ap (λ x. s ++ x) (sym none)) (subst (All IsNoDotSegment) (sym (split_one (s ++ []) (subst (All (IsNot 47)) (sym (append-nil s)) whole))) (All-cons IsNoDotSegment (s ++ []) [] (ap dot_count (append-nil s) ∙ closes p s path closed is) (All-nil IsNoDotSegment)));
  scheme = λ first. ap has_scheme none;
}

-- a byte behind which a scheme is over, or goes on
abbrev EndsNoScheme : OpenPart → ℕ → Type 0
EndsNoScheme p b = (is_first p && b == 58) ≡ false

no_mark : (p : OpenPart) (b : ℕ) → EndsNoScheme p b → is_first p ≡ true → b ≢ 47 → b ≢ 63 → b ≢ 35 → is_mark b ≡ false
no_mark p b ends first no_slash no_query no_fragment = grind (arith, nat_tests)

first_still : (p : OpenPart) (b : ℕ) → is_first p ≡ true → is_first (after_segment_byte p b) ≡ true
first_still p b first = grind (arith, nat_tests)

first_byte : (p : OpenPart) (b : ℕ) (markup : List ℕ) → ends_scheme p (b ∷ markup) ≡ false → EndsNoScheme p b
first_byte p b markup none = grind (arith, nat_tests)

later_bytes : (p : OpenPart) (b : ℕ) (markup : List ℕ) → ends_scheme p (b ∷ markup) ≡ false → ends_scheme (after_byte p b) markup ≡ false
later_bytes p b markup none = grind (arith, nat_tests, mark_passed)

byte_good : (p : OpenPart) (b : ℕ) (rest : List ℕ) → is_plain_byte b ≡ true → (may_be_dots p && is_end b) ≡ false → EndsNoScheme p b → Good (after_byte p b) rest → Good p (b ∷ rest)
byte_good p b rest plain open_still ends good path = by_kind (path_byte p b path)
  where
    by_kind : PathByte p b → GoodRest p (b ∷ rest)
    by_kind (slash here next) =
        let more = subst (λ q. Good q rest) next good refl in
        let over : path_of (b ∷ rest) ≡ 47 ∷ path_of rest = ap (λ x. path_of (x ∷ rest)) here ∙ path_over_byte 47 rest (omega arith) (λ e. absurd (omega arith)) (λ e. absurd (omega arith)) in
        record {
          plain = rw over (All-cons (λ b. is_path_byte b ≡ true) 47 (path_of rest) refl more.plain);
          resolved = λ s whole is. rw (over, split_at s (path_of rest) whole) (All-cons IsNoDotSegment s _ (closes p s path (grind (arith, nat_tests)) is) (more.resolved [] (All-nil (IsNot 47)) refl));
          scheme = λ first. ap has_scheme over;
        }
    by_kind (tail (inl query)) = ended p (b ∷ rest) path (grind (arith, nat_tests)) (ap (λ x. path_of (x ∷ rest)) query ∙ query_ends rest)
    by_kind (tail (inr fragment)) = ended p (b ∷ rest) path (grind (arith, nat_tests)) (ap (λ x. path_of (x ∷ rest)) fragment ∙ fragment_ends rest)
    by_kind (inside no_slash no_query no_fragment next) =
        let more = subst (λ q. Good q rest) next good (segment_in_path p b) in
        let over = path_over_byte b rest (grind (arith, nat_tests)) no_fragment no_query in
        record {
          plain = rw over (All-cons (λ b. is_path_byte b ≡ true) b (path_of rest) (grind (arith, nat_tests)) more.plain);
          resolved = λ s whole is. rw (over, ← append_assoc s (b ∷ []) (path_of rest)) (more.resolved (s ++ b ∷ []) (All-push (IsNot 47) s b whole no_slash) (after_segment p s b is));
          scheme = λ first. ap has_scheme over ∙ mark_passed b (path_of rest) (no_mark p b ends first no_slash no_query no_fragment) ∙ more.scheme (first_still p b first);
        }

pub markup_good : (p q : OpenPart) (markup rest : List ℕ) → All (λ b. is_plain_byte b ≡ true) markup → ends_scheme p markup ≡ false → after_markup p markup ≡ Some q → Good q rest → Good p (markup ++ rest)
markup_good p q [] rest plain ends is good = let same : p ≡ q = cc in subst (λ x. Good x rest) (sym same) good
markup_good p q (b ∷ markup) rest plain ends is good =
    elim (cases_Bool (may_be_dots p && is_end b)) [
      | inl closed ↦ let clash : None ≡ Some q = rw closed at is in cc
      | inr open_still ↦ byte_good p b (markup ++ rest) (All-head (λ b. is_plain_byte b ≡ true) b markup plain) open_still (first_byte p b markup ends)
          (markup_good (after_byte p b) q markup rest (All-tail (λ b. is_plain_byte b ≡ true) b markup plain) (later_bytes p b markup ends) (rw open_still at is) good)
    ]

component_is_path : (text : List ℕ) → IsPathText (component text)
component_is_path text = All-weaker (λ b. is_component_byte b ≡ true) (λ b. is_path_byte b ≡ true) (λ b passes. grind (arith, nat_tests)) (component text) (component_bytes text)

over_text : (p q : OpenPart) (text rest : List ℕ) → GoodRest q rest → (is_first p ≡ true → is_first q ≡ true) → ((s : List ℕ) → Open p s → Open q (s ++ component text)) → GoodRest p (component text ++ rest)
over_text p q text rest more stays goes = record {
  plain = subst IsPathText (sym (path_over_text text rest)) (All-append (λ b. is_path_byte b ≡ true) (component text) (path_of rest) (component_is_path text) more.plain);
  resolved = λ s whole is. subst HasNoDotSegments (append_assoc s (component text) (path_of rest) ∙ ap (λ x. s ++ x) (sym (path_over_text text rest))) (more.resolved (s ++ component text) (All-append (IsNot 47) s (component text) whole (component_without 47 refl text)) (goes s is));
  scheme = λ first. ap has_scheme (path_over_text text rest) ∙ text_passed text (path_of rest) ∙ more.scheme (stays first);
}

pub text_good : (p : OpenPart) (slot : UrlSlot) (text rest : List ℕ) → slot_at p ≡ Some slot → may_fill slot text ≡ true → Good (after_text p) rest → Good p (component text ++ rest)
text_good NewSegment slot text rest is may good path =
    let begins : slot.begins_segment ≡ true = cc in
    let both : (nat_lt 0 (length text) && dot_count (component text) == 0) ≡ true = rw begins at may in
    let parts = and_parts (nat_lt 0 (length text)) (dot_count (component text) == 0) both in
    let none : dot_count (component text) ≡ 0 = no_dots parts.1 in
    over_text NewSegment NamedSegment text rest (good refl) (λ first. cc) (λ s new. subst (λ x. IsNamed (x ++ component text)) (sym new) (λ more. text_names text more (long parts.0) none))
  where
    no_dots : (dot_count (component text) == 0) ≡ true → dot_count (component text) ≡ 0
    no_dots is = grind (arith, nat_tests)

    long : nat_lt 0 (length text) ≡ true → 0 < length text
    long is = grind (arith, nat_tests)
text_good NamedSegment slot text rest is may good path = over_text NamedSegment NamedSegment text rest (good refl) (λ first. cc) (λ s named. named_more s (component text) named)
text_good FirstSegment slot text rest is may good path = over_text FirstSegment FirstSegment text rest (good refl) (λ first. refl) (λ s named. named_more s (component text) named)
text_good DotSegment slot text rest is may good path = cc
text_good OpaquePath slot text rest is may good path = cc
text_good Query slot text rest is may good path = cc
text_good Fragment slot text rest is may good path = cc

-- ---- the slots behind an open part

-- a slot in a path stands in the place Path
path_place : (p : OpenPart) (slot : UrlSlot) → slot_at p ≡ Some slot → in_path p ≡ true → slot.place ≡ place.Path
path_place p slot here path = grind (arith, nat_tests)

-- where what is written is the component of the text, if this is a path
written_good : (p : OpenPart) (slot : UrlSlot) (at : UrlPlace) (text rest : List ℕ) → slot_at p ≡ Some slot → at ≡ slot.place → may_fill slot text ≡ true → Good (after_text p) rest → Good p (component_at at text ++ rest)
written_good p slot at text rest here same may good path =
    subst (λ (x : UrlPlace). GoodRest p (component_at x text ++ rest)) (sym (same ∙ path_place p slot here path)) (text_good p slot text rest here may good path)

pub later_good : (parts : List Given) (texts : List (List ℕ)) (slots : List UrlSlot) (number : ℕ) (p : OpenPart) → later_slots number p parts ≡ Ok slots → FillParts parts texts slots → Good p (url_of parts texts)
later_good [] texts slots number p is fill = λ path. ended p [] path (later_nothing number p slots is).0 path_nothing
later_good (Markup bytes ∷ parts) texts slots number p is fill =
    let (q, plain, here, rest) = later_markup number p bytes parts slots is in
    markup_good p q bytes (url_of parts texts) (plain_bytes bytes (no_parts parts) plain) (later_scheme number p bytes parts slots is) here (later_good parts texts slots (number + 1) q rest (fill.0, markup_places slots fill.1))
later_good (Slot at ∷ parts) [] slots number p is fill = let (slot, more, here, rest, are) = later_slot number p at parts slots is in absurd (subst (λ l. FillSlots l []) are fill.0)
later_good (Slot at ∷ parts) (text ∷ texts) slots number p is fill =
    let (slot, more, here, rest, are) = later_slot number p at parts slots is in
    let both = subst (λ l. FillSlots l (text ∷ texts)) are fill.0 in
    let same = subst (λ l. placed l (Slot at ∷ parts) ≡ Slot at ∷ parts) are fill.1 in
    written_good p slot at text (url_of parts texts) here (first_place more slot same) both.0 (later_good parts texts more (number + 1) (after_text p) rest (both.1, later_places more slot same))
