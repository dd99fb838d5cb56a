-- Behind a base and the markup that follows it the host is fixed, and the same is open as behind the markup alone.
use Rattle.std.proofs.Common.{◌≡◌, ◌≢◌, ℕ, Bool, true, false, ◌||◌, List, [], ◌∷◌, ◌++◌, codes, Some, refl, sym, ap, ◌∙◌, append_assoc, arith, get_or}
use Rattle.std.proofs.lemmas.Bool.Decides.{nat_tests}
use Rattle.std.proofs.lemmas.Bool.{cond-false, cond-true, ne_eqb}
use Rattle.html_urls.specs.declared.base.BehindBase.{BehindBase}
use Rattle.html_urls.specs.declared.base.BehindBase.TheVariants.{Slash, Tail, Segment}
use Rattle.html_urls.specs.declared.open_part.OpenPart.{OpenPart}
use Rattle.html_urls.specs.declared.open_part.OpenPart.TheVariants.{NewSegment}
use Rattle.html_urls.specs.Bases.{goes_on_so, is_own_or_web, open_behind}
use Rattle.html_urls.specs.Hosts.{has_first_segment}
use Rattle.html_urls.specs.Links.{is_link}
use Rattle.html_urls.specs.OpenParts.{after_front, after_markup, begins, ends_in_opaque_path, has_address_scheme, has_byte, has_host, has_web_host, is_fixed, is_rooted, open_of, open_of_link}
use Rattle.html_urls.proofs.Bases.Ends.{IsBase, as_front, ends_behind_slash, fragment_found, front_joined, no_fragment_in, no_query_in, query_found, slash_found, slash_in}
use Rattle.html_urls.proofs.Bases.Origins.{Origin, no_colon, byte_before, byte_behind, no_byte_before, origin_of, web_host, web_is_link, web_is_no_opaque}
use Rattle.html_urls.proofs.Places.FixedHosts.{Rooted, root, rooted_is}
use Rattle.html_urls.proofs.Filled.OpenSegments.{in_path}

-- ---- the first bytes

pub is_below : (rest : List ℕ) → get_or rest 0 0 ≢ 47 → is_rooted (47 ∷ rest) ≡ true
is_below rest other = grind (arith, nat_tests)

-- `?` or `#`
pub data TailBegins : List ℕ → Type 0 where
  asks : (rest : List ℕ) → TailBegins (63 ∷ rest)
  marks : (rest : List ℕ) → TailBegins (35 ∷ rest)

pub tail_is : (markup : List ℕ) → (begins markup (codes "?") || begins markup (codes "#")) ≡ true → TailBegins markup
tail_is [] is = cc
tail_is (b ∷ markup) is = grind (arith, nat_tests, asks, marks)

-- ---- a base of the page's own, and one of the web

pub data BaseText : List ℕ → Type 0 where
  nothing : BaseText []
  own : {text : List ℕ} → Rooted text → BaseText text
  of_web : {text : List ℕ} → Origin text → BaseText text

pub text_is : (text : List ℕ) → is_own_or_web text ≡ true → BaseText text
text_is [] is = nothing
text_is (a ∷ rest) is = by_test (is_rooted (a ∷ rest)) refl
  where
    by_test : (r : Bool) → is_rooted (a ∷ rest) ≡ r → BaseText (a ∷ rest)
    by_test true rooted = own (rooted_is (a ∷ rest) rooted)
    by_test false none = of_web (origin_of (a ∷ rest) (grind (arith, nat_tests)))

-- a base that is rooted stays so before markup
pub rooted_on : (behind : BehindBase) (text markup : List ℕ) → IsBase behind text → Rooted text → goes_on_so behind markup ≡ true → behind ≢ Tail → is_rooted (text ++ markup) ≡ true
rooted_on behind _ markup base (root (b ∷ rest) other) goes no_tail = is_below (b ∷ rest ++ markup) other
rooted_on behind _ [] base (root [] other) goes no_tail = refl
rooted_on behind _ (b ∷ markup) base (root [] other) goes no_tail = grind (arith, nat_tests, base.is, base.ends, is_below)

-- what stands behind the host of one of the web has a `/`
pub slash_behind_host : (text : List ℕ) (origin : Origin text) → IsBase Segment text → has_byte 47 origin.more ≡ true
slash_behind_host text origin base = grind (arith, nat_tests, ends_behind_slash, slash_found, front_joined)

-- ---- the host is fixed

slash_on : (behind : BehindBase) (text markup : List ℕ) → IsBase behind text → (origin : Origin text) → goes_on_so behind markup ≡ true → behind ≢ Tail → has_byte 47 (origin.more ++ markup) ≡ true
slash_on Slash text markup base origin goes no_tail = grind (arith, nat_tests, byte_behind, rooted_is)
slash_on Tail text markup base origin goes no_tail = absurd (no_tail refl)
slash_on Segment text markup base origin goes no_tail = byte_before 47 origin.more markup (slash_behind_host text origin base)

host_on : (behind : BehindBase) (text markup : List ℕ) → IsBase behind text → (origin : Origin text) → goes_on_so behind markup ≡ true → behind ≢ Tail → has_web_host (text ++ markup) ≡ true
host_on behind text markup base origin goes no_tail =
    let body : List ℕ = 47 ∷ 47 ∷ origin.first ∷ (origin.more ++ markup) in
    let spelled : text ++ markup ≡ origin.scheme ++ 58 ∷ body = ap (λ l. l ++ markup) origin.spelled ∙ append_assoc origin.scheme (58 ∷ 47 ∷ 47 ∷ origin.first ∷ origin.more) markup in
    let host : has_host body ≡ true = rw (ne_eqb origin.first 47 origin.other) (slash_on behind text markup base origin goes no_tail) in
    ap has_web_host spelled ∙ web_host origin.scheme body origin.no_marks origin.web host

or_last : (x y z w : Bool) → w ≡ true → (x || y || z || w) ≡ true
or_last x y z w is = grind (arith, nat_tests)

fixed_by_root : (front : List ℕ) → is_rooted front ≡ true → is_fixed front ≡ true
fixed_by_root front rooted = ap (λ x. x || has_first_segment front || has_host front || has_web_host front) rooted

fixed_on : (behind : BehindBase) (text markup : List ℕ) → IsBase behind text → BaseText text → goes_on_so behind markup ≡ true → behind ≢ Tail → is_fixed (text ++ markup) ≡ true
fixed_on behind text markup base (own rooted) goes no_tail = fixed_by_root (text ++ markup) (rooted_on behind text markup base rooted goes no_tail)
fixed_on behind text markup base (of_web origin) goes no_tail = or_last (is_rooted (text ++ markup)) (has_first_segment (text ++ markup)) (has_host (text ++ markup)) _ (host_on behind text markup base origin goes no_tail)
fixed_on Slash _ markup base nothing goes no_tail = fixed_by_root markup goes
fixed_on Tail _ markup base nothing goes no_tail = absurd (no_tail refl)
fixed_on Segment _ markup base nothing goes no_tail = absurd (grind (arith, nat_tests, base.is, base.ends))

-- ---- it is a link

pub link_on : (behind : BehindBase) (text markup : List ℕ) → IsBase behind text → BaseText text → goes_on_so behind markup ≡ true → is_link (text ++ markup) ≡ true
link_on behind _ markup base (own (root rest other)) goes = refl
link_on behind text markup base (of_web origin) goes =
    let spelled : text ++ markup ≡ origin.scheme ++ 58 ∷ (47 ∷ 47 ∷ origin.first ∷ origin.more ++ markup) = ap (λ l. l ++ markup) origin.spelled ∙ append_assoc origin.scheme (58 ∷ 47 ∷ 47 ∷ origin.first ∷ origin.more) markup in
    ap is_link spelled ∙ web_is_link origin.scheme (47 ∷ 47 ∷ origin.first ∷ origin.more ++ markup) origin.no_marks origin.web
link_on behind _ markup base nothing goes = grind (arith, nat_tests, base.is, base.ends)

-- ---- its path is not opaque

no_opaque_on : (behind : BehindBase) (text markup : List ℕ) → IsBase behind text → BaseText text → goes_on_so behind markup ≡ true → ends_in_opaque_path (text ++ markup) ≡ false
no_opaque_on behind _ markup base (own (root rest other)) goes = refl
no_opaque_on behind text markup base (of_web origin) goes =
    let spelled : text ++ markup ≡ origin.scheme ++ 58 ∷ (47 ∷ 47 ∷ origin.first ∷ origin.more ++ markup) = ap (λ l. l ++ markup) origin.spelled ∙ append_assoc origin.scheme (58 ∷ 47 ∷ 47 ∷ origin.first ∷ origin.more) markup in
    ap ends_in_opaque_path spelled ∙ web_is_no_opaque origin.scheme (47 ∷ origin.first ∷ origin.more ++ markup) origin.no_marks
no_opaque_on Segment _ markup base nothing goes = absurd (grind (arith, nat_tests, base.is, base.ends))
no_opaque_on Slash _ [] base nothing goes = refl
no_opaque_on Tail _ [] base nothing goes = refl
no_opaque_on Slash _ (b ∷ markup) base nothing goes = no_colon b markup (grind (arith, nat_tests))
no_opaque_on Tail _ (b ∷ markup) base nothing goes = no_colon b markup (grind (arith, nat_tests))

-- ---- what is open

-- markup with neither mark is no tail
no_tail_in : (behind : BehindBase) (markup : List ℕ) → goes_on_so behind markup ≡ true → has_byte 35 markup ≡ false → has_byte 63 markup ≡ false → behind ≢ Tail
no_tail_in behind markup goes no_fragment no_query same = grind (arith, nat_tests)

same_open : (behind : BehindBase) (text markup : List ℕ) → IsBase behind text → goes_on_so behind markup ≡ true → behind ≢ Tail → after_front NewSegment (text ++ markup) ≡ after_front (open_behind behind) markup
same_open behind text markup base goes no_tail = grind (arith, nat_tests, front_joined, rooted_is, slash_in, ends_behind_slash)

link_opens : (behind : BehindBase) (text markup : List ℕ) (q : OpenPart) → IsBase behind text → goes_on_so behind markup ≡ true → after_front (open_behind behind) markup ≡ q → open_of_link (text ++ markup) ≡ Some q
link_opens behind text markup q base goes is =
    let ends_there : in_path (after_front NewSegment text) ≡ true = ap in_path base.is ∙ base.path in
    let number_sign = no_byte_before 35 text markup (no_fragment_in NewSegment text ends_there) in
    let question_mark = no_byte_before 63 text markup (no_query_in NewSegment text refl ends_there) in
    by_marks (has_byte 35 markup) (has_byte 63 markup) refl refl number_sign question_mark
  where
    by_marks : (fragment query : Bool) → has_byte 35 markup ≡ fragment → has_byte 63 markup ≡ query → has_byte 35 (text ++ markup) ≡ has_byte 35 markup → has_byte 63 (text ++ markup) ≡ has_byte 63 markup → open_of_link (text ++ markup) ≡ Some q
    by_marks true query has _ same other = rw (same, has) (ap Some (sym (fragment_found (open_behind behind) markup has) ∙ is))
    by_marks false true none has same other = rw (same, none, other, has) (ap Some (sym (query_found (open_behind behind) markup (grind arith) none has) ∙ is))
    by_marks false false none no_query same other =
        let no_tail = no_tail_in behind markup goes none no_query in
        rw (same, none, other, no_query, fixed_on behind text markup base (text_is text base.host) goes no_tail) (ap Some (same_open behind text markup base goes no_tail ∙ is))

pub opens : (behind : BehindBase) (text markup : List ℕ) (q : OpenPart) → IsBase behind text → goes_on_so behind markup ≡ true → after_markup (open_behind behind) markup ≡ Some q → open_of (text ++ markup) ≡ Some q
opens behind text markup q base goes is =
    cond-false _ _ _ (no_opaque_on behind text markup base (text_is text base.host) goes)
    ∙ cond-true _ _ _ (ap (λ l. l || has_address_scheme (text ++ markup)) (link_on behind text markup base (text_is text base.host) goes))
    ∙ link_opens behind text markup q base goes (as_front (open_behind behind) q markup is)
