-- A text in an opaque path.
use Rattle.std.proofs.Common.{◌≡◌, ◌≢◌, ℕ, ◌<◌, Bool, true, false, ◌||◌, List, [], ◌∷◌, ◌++◌, length, ◌-◌, get_or, Option, None, Some, Ok, is_some, bytes_eq, codes, All, sym, refl, ap, ◌∙◌, subst, append_assoc, arith, inl, inr}
use Rattle.std.specs.Char.{is_ascii_alphabetic}
use Rattle.std.proofs.lemmas.Bool.{cases_Bool}
use Rattle.std.proofs.lemmas.Bool.Decides.{nat_tests}
use Rattle.std.proofs.lemmas.List.{get_or_append_left, length-map}
use Rattle.std.proofs.lemmas.List.Elements.{All-append, All-cons, All-head, All-nil, All-tail, All-weaker}
use Rattle.std.proofs.lemmas.Slice.Eq.{bytes_eq-Decides}
use Rattle.percent_encoding.specs.declared.ascii_set.AsciiSet.{AsciiSet}
use Rattle.percent_encoding.specs.AsciiSet.{should_percent_encode}
use Rattle.percent_encoding.specs.Percent.{percent_encode, percent_encode_byte}
use Rattle.percent_encoding.proofs.PercentLemmas.{All-percent_encode_byte, IsEscapeByte, percent_encode-append, percent_encode-nil, percent_encode_escaped, percent_encode_kept, percent_encode_nonempty}
use Rattle.url.specs.declared.sets.TheConstants.{OPAQUE_PATH}
use Rattle.url.specs.declared.scheme.SchemeType.TheVariants.{NotSpecial}
use Rattle.url.specs.Head.{scheme_only}
use Rattle.url.specs.Input.{lowercase, split_once}
use Rattle.url.specs.Path.{ends_in_space}
use Rattle.url.specs.Scheme.{default_port, scheme_type}
use Rattle.url.specs.Parts.{Parts}
use Rattle.url.specs.Parser.{base_for_scheme, end_path, leading_slashes, parse_body, parse_by_scheme, parse_non_special, parse_parts, parse_url, Parsed, split_scheme, with_path, with_tail}
use Rattle.url.proofs.InputLemmas.{All_from_list_all, split_once_none}
use Rattle.html_urls.specs.declared.component.TheConstants.{ADDRESS}
use Rattle.html_urls.specs.declared.place.UrlPlace.TheVariants as place
use Rattle.html_urls.specs.Components.{address, is_written_byte}
use Rattle.html_urls.specs.Heads.{on_ok}
use Rattle.html_urls.specs.Inputs.{IsNot, IsVisible, kept, kept_rest}
use Rattle.html_urls.specs.Parts.OpaquePaths.{BeginsOpaque, EndsInOpaquePath, FitsOpaquePath, IsOpaqueScheme, is_opaque_byte, opaque, opaque_path_goes_on}
use Rattle.html_urls.specs.Parts.Rests.{fragment_of, path_of, query_of}
use Rattle.html_urls.proofs.Components.{encode_around, written_visible, written_without}
use Rattle.html_urls.proofs.Splits.{kept_around_at, split_clear}
use Rattle.html_urls.proofs.Links.SchemeOf.{HasScheme, parts_scheme}
use Rattle.html_urls.proofs.Paths.WebSchemes.{IsLetter, split_letters, upper_letters}

-- ---- the scheme

opaque_letters : (scheme : List ℕ) → IsOpaqueScheme scheme → All IsLetter scheme
opaque_letters scheme (inl mail) = upper_letters scheme (subst (All IsLetter) (sym mail) (All_from_list_all is_ascii_alphabetic (codes "mailto") refl))
opaque_letters scheme (inr (inl number)) = upper_letters scheme (subst (All IsLetter) (sym number) (All_from_list_all is_ascii_alphabetic (codes "tel") refl))
opaque_letters scheme (inr (inr image)) = upper_letters scheme (subst (All IsLetter) (sym image) (All_from_list_all is_ascii_alphabetic (codes "data") refl))

opaque_some : (scheme : List ℕ) → IsOpaqueScheme scheme → 0 < length scheme
opaque_some scheme known = grind (arith, nat_tests, length-map)

pub opaque_type : (scheme : List ℕ) → IsOpaqueScheme scheme → scheme_type (lowercase scheme) ≡ NotSpecial
unfolding scheme_type default_port
opaque_type scheme known = grind (arith, nat_tests)

no_base : (base : Option Parts) (scheme : List ℕ) → scheme_type scheme ≡ NotSpecial → base_for_scheme base scheme ≡ None
no_base None scheme kind = refl
no_base (Some url) scheme kind = grind (arith, nat_tests, bytes_eq, bytes_eq-Decides)

-- ---- the path

no_slashes : (path : List ℕ) → get_or path 0 0 ≢ 47 → leading_slashes NotSpecial path ≡ 0
unfolding leading_slashes
no_slashes [] first = refl
no_slashes (b ∷ path) first = grind (arith, nat_tests)

-- the URL of this scheme and path
abbrev pub opaque_url : List ℕ → List ℕ → Parts
opaque_url scheme path = with_path (scheme_only (lowercase scheme)) (percent_encode OPAQUE_PATH path)

read_path : (scheme path : List ℕ) → get_or path 0 0 ≢ 47 → parse_non_special scheme path ≡ Ok (with_path (scheme_only scheme) (percent_encode OPAQUE_PATH path))
unfolding parse_non_special
read_path scheme path first = rw (no_slashes path first) refl

read_body : (scheme path : List ℕ) → scheme_type scheme ≡ NotSpecial → get_or path 0 0 ≢ 47 → parse_body scheme None path ≡ Ok (with_path (scheme_only scheme) (percent_encode OPAQUE_PATH path))
unfolding parse_body
read_body scheme path kind first = rw kind (read_path scheme path first)

visible_encoded : (set : AsciiSet) (xs : List ℕ) → All IsVisible xs → All IsVisible (percent_encode set xs)
visible_encoded set [] visible = subst (All IsVisible) (sym (percent_encode-nil set)) (All-nil IsVisible)
visible_encoded set (x ∷ xs) visible =
    let later = visible_encoded set xs (All-tail IsVisible x xs visible) in
    elim (cases_Bool (should_percent_encode set x)) [
      | inl escaped ↦ subst (All IsVisible) (sym (percent_encode_escaped set x xs escaped))
          (All-append IsVisible (percent_encode_byte x) (percent_encode set xs) (All-weaker IsEscapeByte IsVisible (λ b escape. grind (arith, nat_tests)) (percent_encode_byte x) (All-percent_encode_byte x)) later)
      | inr plain ↦ subst (All IsVisible) (sym (percent_encode_kept set x xs plain)) (All-cons IsVisible x (percent_encode set xs) (All-head IsVisible x xs visible) later)
    ]

no_space : (xs : List ℕ) → All IsVisible xs → ends_in_space xs ≡ false
no_space [] visible = refl
no_space (x ∷ xs) visible = let last = visible (length (x ∷ xs) - 1) 0 (omega arith) in grind (arith, nat_tests)

abbrev ok : Parts → Parsed Parts
ok url = Ok url

read_parts : (scheme path : List ℕ) (query fragment : Option (List ℕ)) → scheme_type scheme ≡ NotSpecial → get_or path 0 0 ≢ 47 → All IsVisible path →
    parse_parts scheme None path query fragment ≡ Ok (with_tail (with_path (scheme_only scheme) (percent_encode OPAQUE_PATH path)) query fragment)
unfolding parse_parts
read_parts scheme path query fragment kind first visible =
    let still : ends_in_space (percent_encode OPAQUE_PATH path) ≡ false = no_space (percent_encode OPAQUE_PATH path) (visible_encoded OPAQUE_PATH path visible) in
    rw (read_body scheme path kind first) (ap (λ u. ok (with_tail u query fragment)) (same_end still (is_some query || is_some fragment)))
  where
    url : Parts
    url = with_path (scheme_only scheme) (percent_encode OPAQUE_PATH path)

    same_end : ends_in_space url.path ≡ false → (has_tail : Bool) → end_path has_tail url ≡ url
    same_end still has_tail = grind (arith, nat_tests)

-- ---- the front

letter_is_not : (mark b : ℕ) → is_ascii_alphabetic mark ≡ false → IsLetter b → b ≢ mark
letter_is_not mark b other letter same = let clash = rw (same, other) at letter in cc

-- neither the scheme nor its `:` is this byte
scheme_without : (mark : ℕ) → is_ascii_alphabetic mark ≡ false → mark ≢ 58 → (scheme : List ℕ) → IsOpaqueScheme scheme → All (IsNot mark) (scheme ++ 58 ∷ [])
scheme_without mark other colon scheme known =
    All-append (IsNot mark) scheme (58 ∷ []) (All-weaker IsLetter (IsNot mark) (λ b letter. letter_is_not mark b other letter) scheme (opaque_letters scheme known))
    (All-cons (IsNot mark) 58 [] (λ same. colon (sym same)) (All-nil (IsNot mark)))

path_without : (mark : ℕ) → is_opaque_byte mark ≡ false → (path : List ℕ) → All (λ b. is_opaque_byte b ≡ true) path → All (IsNot mark) path
path_without mark none path bytes = All-weaker (λ b. is_opaque_byte b ≡ true) (IsNot mark) (λ b passes same. let clash = rw (same, none) at passes in cc) path bytes

opaque_visible : (path : List ℕ) → All (λ b. is_opaque_byte b ≡ true) path → All IsVisible path
opaque_visible path bytes = All-weaker (λ b. is_opaque_byte b ≡ true) IsVisible (λ b passes. grind (arith, nat_tests)) path bytes

-- what follows the scheme and its `:` is parsed with no base
abbrev behind_scheme : List ℕ → List ℕ × Option (List ℕ) → Option (List ℕ) → Parsed Parts
behind_scheme scheme r fragment = parse_parts (lowercase scheme) None r.0 r.1 fragment

opaque_parsed : (base : Option Parts) (front scheme rest : List ℕ) → kept front ≡ scheme ++ 58 ∷ rest → IsOpaqueScheme scheme → parse_url base front ≡ behind_scheme scheme (split_once 63 (split_once 35 rest).0) (split_once 35 rest).1
unfolding parse_url
opaque_parsed base front scheme rest same known =
    let before = scheme ++ 58 ∷ [] in
    let hash = split_once 35 rest in
    let question = split_once 63 hash.0 in
    let read = λ (r : List ℕ × Option (List ℕ)) (fragment : Option (List ℕ)). parse_by_scheme (split_scheme r.0) base r.0 r.1 fragment in
    ap (λ k. let r = split_once 35 k in read (split_once 63 r.0) r.1) (same ∙ sym (append_assoc scheme (58 ∷ []) rest))
    ∙ ap (λ (r : List ℕ × Option (List ℕ)). read (split_once 63 r.0) r.1) (split_clear 35 before rest (scheme_without 35 refl (λ e. absurd (omega arith)) scheme known))
    ∙ ap (λ r. read r hash.1) (split_clear 63 before hash.0 (scheme_without 63 refl (λ e. absurd (omega arith)) scheme known))
    ∙ ap (λ l. parse_by_scheme (split_scheme l) base l question.1 hash.1) (append_assoc scheme (58 ∷ []) question.0)
    ∙ ap (λ split. parse_by_scheme split base (scheme ++ 58 ∷ question.0) question.1 hash.1) (split_letters scheme question.0 (opaque_some scheme known) (opaque_letters scheme known))
    ∙ ap (λ page. parse_parts (lowercase scheme) page question.0 question.1 hash.1) (no_base base (lowercase scheme) (opaque_type scheme known))

-- the URL has that scheme, whatever follows
pub opaque_read : (base : Option Parts) (front scheme rest : List ℕ) → kept front ≡ scheme ++ 58 ∷ rest → IsOpaqueScheme scheme → HasScheme (lowercase scheme) (parse_url base front)
opaque_read base front scheme rest same known = subst (HasScheme (lowercase scheme)) (sym (opaque_parsed base front scheme rest same known)) (parts_scheme (lowercase scheme) None _ _ _ tt)

-- ---- the law

first_of : (path text body : List ℕ) → get_or path 0 0 ≢ 47 → (text ≡ [] → get_or body 0 0 ≢ 47) → get_or (path ++ (address text ++ body)) 0 0 ≢ 47
first_of (b ∷ path) text body first none = first
first_of [] [] body first none = subst (λ l. get_or (l ++ body) 0 0 ≢ 47) (sym (percent_encode-nil ADDRESS)) (none refl)
first_of [] (t ∷ text) body first none =
    let long = percent_encode_nonempty ADDRESS (t ∷ text) (omega arith) in
    rw (get_or_append_left (address (t ∷ text)) body 0 0 long) (written_without 47 refl place.OpaquePath (t ∷ text) 0 0 long)

-- the URL of the front alone
pub alone_at : (base : Option Parts) (front scheme path : List ℕ) → kept front ≡ scheme ++ 58 ∷ path → IsOpaqueScheme scheme → All (λ b. is_opaque_byte b ≡ true) path → get_or path 0 0 ≢ 47 →
    parse_url base front ≡ Ok (with_tail (opaque_url scheme path) None None)
alone_at base front scheme path same known bytes first =
    opaque_parsed base front scheme path same known
    ∙ ap (λ r. behind_scheme scheme (split_once 63 r.0) r.1) (split_once_none 35 path (path_without 35 refl path bytes))
    ∙ ap (λ r. behind_scheme scheme r None) (split_once_none 63 path (path_without 63 refl path bytes))
    ∙ read_parts (lowercase scheme) path None None (opaque_type scheme known) first (opaque_visible path bytes)

-- and that of the front, the text and the rest
split_behind : (mark : ℕ) → is_opaque_byte mark ≡ false → is_written_byte mark ≡ false → (path text later : List ℕ) → All (λ b. is_opaque_byte b ≡ true) path →
    split_once mark (path ++ (address text ++ later)) ≡ (path ++ (address text ++ (split_once mark later).0), (split_once mark later).1)
split_behind mark none other path text later bytes =
    split_clear mark path (address text ++ later) (path_without mark none path bytes)
    ∙ ap (λ r. (path ++ r.0, r.1)) (split_clear mark (address text) later (written_without mark other place.OpaquePath text))

whole_at : (base : Option Parts) (front scheme path text rest : List ℕ) → EndsInOpaquePath front → FitsOpaquePath text rest → kept front ≡ scheme ++ 58 ∷ path → IsOpaqueScheme scheme → All (λ b. is_opaque_byte b ≡ true) path → get_or path 0 0 ≢ 47 →
    parse_url base (front ++ address text ++ rest) ≡ Ok (with_tail (opaque_url scheme (path ++ (address text ++ path_of rest))) (query_of rest) (fragment_of rest))
whole_at base front scheme path text rest ends fits same known bytes first =
    let c = address text in
    let hash = split_once 35 (kept_rest rest) in
    let visible = All-append IsVisible path (c ++ path_of rest) (opaque_visible path bytes) (All-append IsVisible c (path_of rest) (written_visible place.OpaquePath text) fits.visible) in
    opaque_parsed base (front ++ c ++ rest) scheme (path ++ (c ++ kept_rest rest))
    (kept_around_at place.OpaquePath front text rest ends.ends ∙ ap (λ k. k ++ (c ++ kept_rest rest)) same ∙ append_assoc scheme (58 ∷ path) (c ++ kept_rest rest)) known
    ∙ ap (λ r. behind_scheme scheme (split_once 63 r.0) r.1) (split_behind 35 refl refl path text (kept_rest rest) bytes)
    ∙ ap (λ r. behind_scheme scheme r hash.1) (split_behind 63 refl refl path text hash.0 bytes)
    ∙ read_parts (lowercase scheme) (path ++ (c ++ path_of rest)) (query_of rest) (fragment_of rest) (opaque_type scheme known) (first_of path text (path_of rest) first fits.opaque) visible

encoded_whole : (path text body : List ℕ) → percent_encode OPAQUE_PATH (path ++ (address text ++ body)) ≡ percent_encode OPAQUE_PATH path ++ address text ++ percent_encode OPAQUE_PATH body
encoded_whole path text body =
    percent_encode-append OPAQUE_PATH path (address text ++ body)
    ∙ ap (λ l. percent_encode OPAQUE_PATH path ++ l) (encode_around ADDRESS OPAQUE_PATH refl refl [] text body ∙ ap (λ l. l ++ address text ++ percent_encode OPAQUE_PATH body) (percent_encode-nil OPAQUE_PATH))
    ∙ sym (append_assoc (percent_encode OPAQUE_PATH path) (address text) (percent_encode OPAQUE_PATH body))

-- THE LAW OF OPAQUE PATHS: the URL is that of the front, with a path that goes on, and the query and the fragment of the rest
pub opaque_law : (base : Option Parts) (front text rest : List ℕ) → EndsInOpaquePath front → FitsOpaquePath text rest →
    parse_url base (front ++ address text ++ rest) ≡ on_ok (opaque_path_goes_on text rest) (parse_url base front)
opaque_law base front text rest ends fits = by_front (kept front) refl ends.opaque
  where
    by_front : (before : List ℕ) → kept front ≡ before → BeginsOpaque before → parse_url base (front ++ address text ++ rest) ≡ on_ok (opaque_path_goes_on text rest) (parse_url base front)
    by_front _ same (opaque scheme path known bytes first) =
        whole_at base front scheme path text rest ends fits same known bytes first
        ∙ ap (λ p. Ok (with_tail (with_path (scheme_only (lowercase scheme)) p) (query_of rest) (fragment_of rest))) (encoded_whole path text (path_of rest))
        ∙ sym (ap (on_ok (opaque_path_goes_on text rest)) (alone_at base front scheme path same known bytes first))

-- the URL of the front
pub record OpaqueFront (base : Option Parts) (front : List ℕ) : Type 0 where
  pub scheme : List ℕ
  pub path : List ℕ
  pub known : IsOpaqueScheme scheme
  pub alone : parse_url base front ≡ Ok (with_tail (opaque_url scheme path) None None)

pub opaque_front : (base : Option Parts) (front : List ℕ) → EndsInOpaquePath front → OpaqueFront base front
opaque_front base front ends = by_front (kept front) refl ends.opaque
  where
    by_front : (before : List ℕ) → kept front ≡ before → BeginsOpaque before → OpaqueFront base front
    by_front _ same (opaque scheme path known bytes first) = record { scheme = scheme; path = path; known = known; alone = alone_at base front scheme path same known bytes first }
