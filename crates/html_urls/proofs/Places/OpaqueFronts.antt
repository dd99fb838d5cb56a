-- Fronts that end in an opaque path, by the tests of their first bytes.
use Rattle.std.proofs.Common.{◌≡◌, ◌≢◌, ℕ, ◌+◌, true, false, not, ◌&&◌, ◌==◌, List, [], ◌∷◌, ◌++◌, get_or, take, drop, bytes_eq, codes, All, sym, subst, append_assoc, eqb-true, arith}
use Rattle.std.proofs.lemmas.Bool.{and_parts}
use Rattle.std.proofs.lemmas.Bool.Decides.{nat_tests}
use Rattle.std.proofs.lemmas.Slice.Eq.{bytes_eq-Decides}
use Rattle.url.proofs.HostLemmas.{none_from_list_any}
use Rattle.html_urls.specs.Links.{has_scheme, mark_at}
use Rattle.html_urls.specs.OpenParts.{begins, ends_in_opaque_path, has_byte, has_opaque_front}
use Rattle.html_urls.specs.Parts.OpaquePaths.{BeginsOpaque, IsOpaqueScheme, is_opaque_byte, opaque}
use Rattle.html_urls.specs.Slots.{is_plain_byte}
use Rattle.html_urls.proofs.OpenEscapes.{not_true}
use Rattle.html_urls.proofs.Paths.Opening.{all_right}
use Rattle.html_urls.proofs.Places.FixedHosts.{at_mark}

pub scheme_ends : (front : List ℕ) → has_opaque_front front ≡ true → has_scheme front ≡ true
scheme_ends front known = grind (arith, nat_tests)

opaque_scheme : (front : List ℕ) → has_opaque_front front ≡ true → IsOpaqueScheme (take (mark_at front) front)
opaque_scheme front known = grind (arith, nat_tests, bytes_eq, bytes_eq-Decides)

no_slash : (path : List ℕ) → begins path (codes "/") ≡ false → get_or path 0 0 ≢ 47
no_slash [] none = λ same. absurd (omega arith)
no_slash (b ∷ path) none = grind (arith, nat_tests)

opaque_text : (xs : List ℕ) → All (λ b. is_plain_byte b ≡ true) xs → has_byte 35 xs ≡ false → has_byte 63 xs ≡ false → All (λ b. is_opaque_byte b ≡ true) xs
opaque_text xs plain no_fragment no_query i d within =
    grind (arith, nat_tests, plain i d within, none_from_list_any (λ b. b == 35) xs no_fragment i d within, none_from_list_any (λ b. b == 63) xs no_query i d within)

-- the scheme and the path behind its `:`
pub record OpaqueEnd (front : List ℕ) : Type 0 where
  pub spelled : front ≡ take (mark_at front) front ++ 58 ∷ drop (mark_at front + 1) front
  pub known : IsOpaqueScheme (take (mark_at front) front)
  pub first : get_or (drop (mark_at front + 1) front) 0 0 ≢ 47
  pub no_query : has_byte 63 front ≡ false
  pub no_fragment : has_byte 35 front ≡ false

pub spelled_at : (front : List ℕ) → has_scheme front ≡ true → front ≡ take (mark_at front) front ++ 58 ∷ drop (mark_at front + 1) front
spelled_at front scheme = at_mark front 58 (λ e. absurd (omega arith)) (eqb-true _ 58 scheme)

pub opaque_end : (front : List ℕ) → ends_in_opaque_path front ≡ true → OpaqueEnd front
opaque_end front ends =
    let slash = not (begins (drop (mark_at front + 1) front) (codes "/")) in
    let query = not (has_byte 63 front) in
    let all = and_parts (has_opaque_front front && slash && query) (not (has_byte 35 front)) ends in
    let four = and_parts (has_opaque_front front && slash) query all.0 in
    let three = and_parts (has_opaque_front front) slash four.0 in
    record {
      spelled = spelled_at front (scheme_ends front three.0);
      known = opaque_scheme front three.0;
      first = no_slash (drop (mark_at front + 1) front) (not_true _ three.1);
      no_query = not_true _ four.1;
      no_fragment = not_true _ all.1;
    }

pub path_bytes : (front : List ℕ) → All (λ b. is_plain_byte b ≡ true) front → OpaqueEnd front → All (λ b. is_opaque_byte b ≡ true) (drop (mark_at front + 1) front)
path_bytes front plain end =
    let scheme = take (mark_at front) front in
    let path = drop (mark_at front + 1) front in
    all_right (λ b. is_opaque_byte b ≡ true) (scheme ++ 58 ∷ []) path (split scheme path (subst (All (λ b. is_opaque_byte b ≡ true)) end.spelled (opaque_text front plain end.no_fragment end.no_query)))
  where
    split : (scheme path : List ℕ) → All (λ b. is_opaque_byte b ≡ true) (scheme ++ 58 ∷ path) → All (λ b. is_opaque_byte b ≡ true) ((scheme ++ 58 ∷ []) ++ path)
    split scheme path all = subst (All (λ b. is_opaque_byte b ≡ true)) (sym (append_assoc scheme (58 ∷ []) path)) all

pub begins_opaque : (front : List ℕ) → All (λ b. is_plain_byte b ≡ true) front → ends_in_opaque_path front ≡ true → BeginsOpaque front
begins_opaque front plain ends =
    let end = opaque_end front ends in
    subst BeginsOpaque (sym end.spelled) (opaque (take (mark_at front) front) (drop (mark_at front + 1) front) end.known (path_bytes front plain end) end.first)
