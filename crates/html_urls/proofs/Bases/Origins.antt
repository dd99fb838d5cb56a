-- A text that begins with a scheme of the web and a host.
use Rattle.std.proofs.Common.{◌≡◌, ◌≢◌, ℕ, ◌+◌, Bool, true, false, not, ◌&&◌, ◌||◌, ◌==◌, List, [], ◌∷◌, ◌++◌, length, codes, get_or, take, drop, take_at, drop_at, All, refl, sym, ap, ◌∙◌, append_assoc, length-append, arith}
use Rattle.std.proofs.lemmas.Bool.{and_parts, eqb-true}
use Rattle.std.proofs.lemmas.Bool.Decides.{nat_tests}
use Rattle.std.proofs.lemmas.List.{get_or_at}
use Rattle.url.specs.Input.{lowercase}
use Rattle.url.proofs.InputLemmas.{All-take-prefix_len, Passes, prefix_len_at}
use Rattle.std.proofs.lemmas.List.Folds.{list_any-append}
use Rattle.html_urls.proofs.Places.FixedHosts.{at_mark}
use Rattle.html_urls.specs.Bases.{begins_host, has_origin}
use Rattle.html_urls.specs.Hosts.{is_web_scheme}
use Rattle.html_urls.specs.Links.{is_link, is_link_scheme, is_mark, mark_at}
use Rattle.html_urls.specs.OpenParts.{begins, ends_in_opaque_path, has_byte, has_host, has_opaque_front, has_web_host}

abbrev IsNoMark : ℕ → Type 0
IsNoMark b = Passes (λ c. not (is_mark c)) b

pub record Origin (text : List ℕ) : Type 0 where
  pub scheme : List ℕ
  pub first : ℕ
  pub more : List ℕ
  pub spelled : text ≡ scheme ++ 58 ∷ 47 ∷ 47 ∷ first ∷ more
  pub no_marks : All IsNoMark scheme
  pub web : is_web_scheme scheme ≡ true
  pub other : first ≢ 47

pub record HostBegins (body : List ℕ) : Type 0 where
  pub first : ℕ
  pub more : List ℕ
  pub spelled : body ≡ 47 ∷ 47 ∷ first ∷ more
  pub other : first ≢ 47

host_begins : (body : List ℕ) → begins_host body ≡ true → HostBegins body
host_begins body is = grind (arith, nat_tests)

pub origin_of : (text : List ℕ) → has_origin text ≡ true → Origin text
origin_of text has =
    let scheme = take (mark_at text) text in
    let body = drop (mark_at text + 1) text in
    let both = and_parts (get_or text (mark_at text) 0 == 58 && is_web_scheme scheme) (begins_host body) has in
    let front = and_parts (get_or text (mark_at text) 0 == 58) (is_web_scheme scheme) both.0 in
    let host = host_begins body both.1 in
    record {
      scheme = scheme;
      first = host.first;
      more = host.more;
      spelled = at_mark text 58 (λ e. absurd (omega arith)) (eqb-true _ 58 front.0) ∙ ap (λ l. scheme ++ 58 ∷ l) host.spelled;
      no_marks = All-take-prefix_len (λ b. not (is_mark b)) text;
      web = front.1;
      other = host.other;
    }

-- ---- behind a scheme

scheme_ends : (scheme rest : List ℕ) → All IsNoMark scheme → mark_at (scheme ++ 58 ∷ rest) ≡ length scheme
scheme_ends scheme rest none = prefix_len_at (λ b. not (is_mark b)) scheme (58 ∷ rest) none refl

behind_scheme : (scheme rest : List ℕ) → drop (length scheme + 1) (scheme ++ 58 ∷ rest) ≡ rest
behind_scheme scheme rest =
    ap (drop (length scheme + 1)) (sym (append_assoc scheme (58 ∷ []) rest)) ∙ drop_at (scheme ++ 58 ∷ []) rest _ (length-append scheme (58 ∷ []))

link_scheme : (scheme : List ℕ) → is_web_scheme scheme ≡ true → is_link_scheme (lowercase scheme) ≡ true
link_scheme scheme web = grind (arith, nat_tests)

or_right : (x y : Bool) → y ≡ true → (x || y) ≡ true
or_right x y is = grind (arith, nat_tests)

pub web_is_link : (scheme rest : List ℕ) → All IsNoMark scheme → is_web_scheme scheme ≡ true → is_link (scheme ++ 58 ∷ rest) ≡ true
web_is_link scheme rest none web = grind (arith, nat_tests, scheme_ends, take_at, or_right, not, link_scheme)

-- a front whose first byte is another mark than `:`
pub no_colon : (b : ℕ) (rest : List ℕ) → (is_mark b && not (b == 58)) ≡ true → ends_in_opaque_path (b ∷ rest) ≡ false
no_colon b rest other = grind (arith, nat_tests)

-- its path is not opaque
pub web_is_no_opaque : (scheme rest : List ℕ) → All IsNoMark scheme → ends_in_opaque_path (scheme ++ 58 ∷ 47 ∷ rest) ≡ false
web_is_no_opaque scheme rest none = by_slash (behind_mark (scheme_ends scheme (47 ∷ rest) none))
  where
    front : List ℕ
    front = scheme ++ 58 ∷ 47 ∷ rest

    no_path : (x y z : Bool) → (x && false && y && z) ≡ false
    no_path x y z = grind (arith, nat_tests)

    behind_mark : mark_at front ≡ length scheme → begins (drop (mark_at front + 1) front) (codes "/") ≡ true
    behind_mark is = ap (λ n. begins (drop (n + 1) front) (codes "/")) is ∙ ap (λ l. begins l (codes "/")) (behind_scheme scheme (47 ∷ rest))

    by_slash : begins (drop (mark_at front + 1) front) (codes "/") ≡ true → ends_in_opaque_path front ≡ false
    by_slash slash = rw slash (no_path (has_opaque_front front) (not (has_byte 63 front)) (not (has_byte 35 front)))

pub web_host : (scheme body : List ℕ) → All IsNoMark scheme → is_web_scheme scheme ≡ true → has_host body ≡ true → has_web_host (scheme ++ 58 ∷ body) ≡ true
web_host scheme body none web host = grind (arith, nat_tests, scheme_ends, get_or_at, take_at, behind_scheme)

pub byte_behind : (mark : ℕ) (xs ys : List ℕ) → has_byte mark ys ≡ true → has_byte mark (xs ++ ys) ≡ true
byte_behind mark xs ys has = grind (arith, nat_tests, list_any-append (λ b. b == mark) xs ys)

pub byte_before : (mark : ℕ) (xs ys : List ℕ) → has_byte mark xs ≡ true → has_byte mark (xs ++ ys) ≡ true
byte_before mark xs ys has = grind (arith, nat_tests, list_any-append (λ b. b == mark) xs ys)

pub no_byte_before : (mark : ℕ) (xs ys : List ℕ) → has_byte mark xs ≡ false → has_byte mark (xs ++ ys) ≡ has_byte mark ys
no_byte_before mark xs ys none = grind (arith, nat_tests, list_any-append (λ b. b == mark) xs ys)
