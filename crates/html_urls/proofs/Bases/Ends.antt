-- What is open behind a base, and behind the markup that follows it.
use Rattle.std.proofs.Common.{◌≡◌, ◌≢◌, ℕ, Bool, true, false, ◌&&◌, ◌==◌, List, [], ◌∷◌, ◌++◌, length, Option, Some, None, refl, sym, ap, ◌∙◌, arith, inl, inr}
use Rattle.std.proofs.lemmas.Bool.Decides.{nat_tests}
use Rattle.std.proofs.lemmas.Bool.{and_parts, cases_Bool, cases_eq, false≢true, ne_eqb}
use Rattle.html_urls.specs.declared.base.BehindBase.{BehindBase}
use Rattle.html_urls.specs.declared.base.BehindBase.TheVariants.{Segment}
use Rattle.html_urls.specs.declared.open_part.OpenPart.{OpenPart}
use Rattle.html_urls.specs.declared.open_part.OpenPart.TheVariants.{NewSegment, DotSegment, NamedSegment, FirstSegment, OpaquePath, Query, Fragment}
use Rattle.html_urls.specs.Bases.{ends_as, is_base, is_own_or_web}
use Rattle.html_urls.specs.OpenParts.{after_byte, after_front, after_markup, has_byte, is_end, may_be_dots}
use Rattle.html_urls.specs.Slots.{is_plain}
use Rattle.html_urls.proofs.Filled.OpenSegments.{in_path}

-- ---- markup, byte by byte

pub part_is : (x y : OpenPart) → Some x ≡ Some y → x ≡ y
part_is x y same = cc

-- no dot segment ends in it
pub as_front : (p q : OpenPart) (markup : List ℕ) → after_markup p markup ≡ Some q → after_front p markup ≡ q
as_front p q [] is = part_is p q is
as_front p q (b ∷ markup) is =
    elim (cases_Bool (may_be_dots p && is_end b)) [ inl closed ↦ let clash : None ≡ Some q = rw closed at is in cc | inr open_still ↦ as_front (after_byte p b) q markup (rw open_still at is) ]

pub front_joined : (p : OpenPart) (xs ys : List ℕ) → after_front p (xs ++ ys) ≡ after_front (after_front p xs) ys
front_joined p [] ys = refl
front_joined p (x ∷ xs) ys = front_joined (after_byte p x) xs ys

pub markup_joined : (p q : OpenPart) (xs ys : List ℕ) → after_markup p xs ≡ Some q → after_markup p (xs ++ ys) ≡ after_markup q ys
markup_joined p q [] ys is = ap (λ r. after_markup r ys) (part_is p q is)
markup_joined p q (b ∷ xs) ys is =
    elim (cases_Bool (may_be_dots p && is_end b)) [ inl closed ↦ let clash : None ≡ Some q = rw closed at is in cc | inr open_still ↦ rw open_still (markup_joined (after_byte p b) q xs ys (rw open_still at is)) ]

-- ---- the fragment, the query and the path

pub fragment_stays : (markup : List ℕ) → after_front Fragment markup ≡ Fragment
fragment_stays [] = refl
fragment_stays (b ∷ markup) = fragment_stays markup

number_sign_in : (p : OpenPart) → after_byte p 35 ≡ Fragment
number_sign_in p = grind (arith, nat_tests)

pub fragment_found : (p : OpenPart) (markup : List ℕ) → has_byte 35 markup ≡ true → after_front p markup ≡ Fragment
fragment_found p [] has = cc
fragment_found p (b ∷ markup) has =
    elim (cases_eq b 35) [
      | inl here ↦ ap (λ x. after_front (after_byte p x) markup) here ∙ ap (λ q. after_front q markup) (number_sign_in p) ∙ fragment_stays markup
      | inr other ↦ fragment_found (after_byte p b) markup (rw (ne_eqb b 35 other) at has)
    ]

query_goes_on : (markup : List ℕ) → has_byte 35 markup ≡ false → after_front Query markup ≡ Query
query_goes_on [] none = refl
query_goes_on (b ∷ markup) none =
    elim (cases_Bool (b == 35)) [ inl here ↦ let clash : true ≡ false = rw here at none in cc | inr other ↦ rw other (query_goes_on markup (rw other at none)) ]

question_mark_in : (p : OpenPart) → in_path p ≡ true → after_byte p 63 ≡ Query
question_mark_in p path = grind (arith, nat_tests)

pub slash_in : (p : OpenPart) → in_path p ≡ true → after_byte p 47 ≡ NewSegment
slash_in p path = grind (arith, nat_tests)

stays_in_path : (p : OpenPart) (b : ℕ) → in_path p ≡ true → b ≢ 63 → b ≢ 35 → in_path (after_byte p b) ≡ true
stays_in_path p b path no_query no_fragment = grind (arith, nat_tests)

no_byte : (mark b : ℕ) (markup : List ℕ) → has_byte mark (b ∷ markup) ≡ false → (b ≢ mark) × (has_byte mark markup ≡ false)
no_byte mark b markup none = grind (arith, nat_tests)

pub query_found : (p : OpenPart) (markup : List ℕ) → in_path p ≡ true → has_byte 35 markup ≡ false → has_byte 63 markup ≡ true → after_front p markup ≡ Query
query_found p [] path none has = cc
query_found p (b ∷ markup) path none has =
    let here = no_byte 35 b markup none in
    elim (cases_eq b 63) [
      | inl mark ↦ ap (λ x. after_front (after_byte p x) markup) mark ∙ ap (λ q. after_front q markup) (question_mark_in p path) ∙ query_goes_on markup here.1
      | inr other ↦ query_found (after_byte p b) markup (stays_in_path p b path other here.0) here.1 (rw (ne_eqb b 63 other) at has)
    ]

-- markup that ends in the path has neither mark
pub no_fragment_in : (p : OpenPart) (markup : List ℕ) → in_path (after_front p markup) ≡ true → has_byte 35 markup ≡ false
no_fragment_in p markup path = grind (arith, nat_tests, false≢true, in_path, fragment_found)

pub no_query_in : (p : OpenPart) (markup : List ℕ) → in_path p ≡ true → in_path (after_front p markup) ≡ true → has_byte 63 markup ≡ false
no_query_in p markup begins path = grind (arith, nat_tests, false≢true, in_path, query_found, no_fragment_in)

-- ---- a new segment is open behind a `/` alone

abbrev pub is_new : OpenPart → Bool
is_new NewSegment = true
is_new DotSegment = false
is_new NamedSegment = false
is_new FirstSegment = false
is_new OpaquePath = false
is_new Query = false
is_new Fragment = false

old_byte : (p : OpenPart) (b : ℕ) → b ≢ 47 → is_new (after_byte p b) ≡ false
old_byte p b other = grind (arith, nat_tests)

old_front : (p : OpenPart) (b : ℕ) (markup : List ℕ) → has_byte 47 (b ∷ markup) ≡ false → is_new (after_front p (b ∷ markup)) ≡ false
old_front p b [] none = old_byte p b (no_byte 47 b [] none).0
old_front p b (c ∷ markup) none = old_front (after_byte p b) c markup (no_byte 47 b (c ∷ markup) none).1

pub slash_found : (p : OpenPart) (b : ℕ) (markup : List ℕ) → after_front p (b ∷ markup) ≡ NewSegment → has_byte 47 (b ∷ markup) ≡ true
slash_found p b markup new =
    elim (cases_Bool (has_byte 47 (b ∷ markup))) [ inl has ↦ has | inr none ↦ absurd (false≢true (sym (old_front p b markup none) ∙ ap is_new new)) ]

-- ---- a base

-- what is known of one
pub record IsBase (behind : BehindBase) (text : List ℕ) : Type 0 where
  pub plain : is_plain text false ≡ true
  pub host : is_own_or_web text ≡ true
  pub part : OpenPart
  pub is : after_front NewSegment text ≡ part
  pub path : in_path part ≡ true
  pub ends : ends_as behind (length text == 0) (Some part) ≡ true

ends_in_path : (behind : BehindBase) (is_empty : Bool) (part : OpenPart) → ends_as behind is_empty (Some part) ≡ true → in_path part ≡ true
ends_in_path behind is_empty part ends = grind (arith, nat_tests)

pub base_is : (behind : BehindBase) (text : List ℕ) → is_base behind text ≡ true → IsBase behind text
base_is behind text base =
    let both = and_parts (is_plain text false && is_own_or_web text) (ends_as behind (length text == 0) (after_markup NewSegment text)) base in
    let first = and_parts (is_plain text false) (is_own_or_web text) both.0 in
    by_part first.0 first.1 (after_markup NewSegment text) refl both.1
  where
    by_part : is_plain text false ≡ true → is_own_or_web text ≡ true → (o : Option OpenPart) → after_markup NewSegment text ≡ o → ends_as behind (length text == 0) o ≡ true → IsBase behind text
    by_part plain host (Some part) is ends = record {
      plain = plain;
      host = host;
      part = part;
      is = as_front NewSegment part text is;
      path = ends_in_path behind (length text == 0) part ends;
      ends = ends;
    }
    by_part plain host None is ends = cc

-- before a segment it ends in `/`
pub ends_behind_slash : (is_empty : Bool) (part : OpenPart) → ends_as Segment is_empty (Some part) ≡ true → part ≡ NewSegment
ends_behind_slash is_empty part ends = grind (arith, nat_tests)
