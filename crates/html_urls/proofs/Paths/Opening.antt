-- What the parser has read when it comes to the path.
use Rattle.std.proofs.Common.{◌≡◌, ◌≢◌, ℕ, ◌<◌, Bool, false, cond, not, ◌||◌, ◌==◌, List, [], ◌∷◌, ◌++◌, length, get_or, drop, Option, Some, None, Ok, Err, IfSome, IfOk, is_some, codes, All, refl, ap, ◌∙◌, append_assoc, arith, take_at, drop_at}
use Rattle.std.proofs.lemmas.Bool.{cond-false, cond_both}
use Rattle.std.proofs.lemmas.Bool.Decides.{nat_tests}
use Rattle.std.proofs.lemmas.List.Elements.{All-nil, All-cons, All-head, All-tail}
use Rattle.std.proofs.lemmas.Slice.Eq.{bytes_eq-Decides}
use Rattle.url.specs.declared.error.ParseError.TheVariants.{RelativeUrlWithoutBase, RelativeUrlWithCannotBeABaseBase}
use Rattle.url.specs.declared.scheme.SchemeType.{SchemeType}
use Rattle.url.specs.declared.scheme.SchemeType.TheVariants.{SpecialNotFile}
use Rattle.url.specs.Input.{lowercase}
use Rattle.url.specs.Scheme.{scheme_type, scheme_len, is_file}
use Rattle.url.specs.Path.{shorten_path, parse_path, parse_path_start}
use Rattle.url.specs.Parts.{Parts, kind_of, cannot_be_a_base}
use Rattle.url.specs.Head.{head_only}
use Rattle.url.specs.Parser.{Parsed, and_then, parse_authority, with_path, leading_slashes, skip_slashes, after_double_slash, inherit, parse_relative, parse_not_file, parse_body, with_tail, before_tail, parse_all, parse_parts, split_scheme, base_for_scheme, parse_by_scheme}
use Rattle.url.proofs.InputLemmas.{Passes, prefix_len_at, is_empty_nonempty}
use Rattle.html_urls.specs.Hosts.{IsWebScheme, IsWebBase}
use Rattle.html_urls.specs.Inputs.{IsNot}
use Rattle.html_urls.proofs.Paths.WebSchemes.{split_web, web_type}

-- the body is read in the path state, at this path, and the rest of the URL is settled
abbrev pub Reads : Option Parts → List ℕ → Parsed Parts → List ℕ → List ℕ → Type 0
Reads base input start path body =
    (query fragment : Option (List ℕ)) → parse_by_scheme (split_scheme input) base input query fragment ≡ and_then start (λ url. Ok (with_tail (with_path url (parse_path SpecialNotFile path body)) query fragment))

pub all_left : (P : ℕ → Type 0) (xs ys : List ℕ) → All P (xs ++ ys) → All P xs
all_left P [] ys all = All-nil P
all_left P (x ∷ xs) ys all = All-cons P x xs (All-head P x (xs ++ ys) all) (all_left P xs ys (All-tail P x (xs ++ ys) all))

pub all_right : (P : ℕ → Type 0) (xs ys : List ℕ) → All P (xs ++ ys) → All P ys
all_right P [] ys all = all
all_right P (x ∷ xs) ys all = all_right P xs ys (All-tail P x (xs ++ ys) all)

-- ---- behind a base

-- the head of the base, or why nothing is relative to it
abbrev pub from_base : Option Parts → Parsed Parts
from_base None = Err RelativeUrlWithoutBase
from_base (Some base) = cond (cannot_be_a_base base) (Err RelativeUrlWithCannotBeABaseBase) (Ok (head_only base))

-- a body that is not empty, with the base's own scheme
based_parts : (base : Parts) (b : ℕ) (input path body : List ℕ) (query fragment : Option (List ℕ)) → kind_of base ≡ SpecialNotFile →
    parse_relative base (b ∷ input) ≡ Ok (with_path (head_only base) (parse_path SpecialNotFile path body)) →
    parse_parts base.scheme (Some base) (b ∷ input) query fragment ≡ Ok (with_tail (with_path (head_only base) (parse_path SpecialNotFile path body)) query fragment)
unfolding parse_parts parse_body
based_parts base b input path body query fragment web relative = grind (arith, nat_tests)

-- the answer of `parse_relative` at every base that there is
abbrev pub Relative : Option Parts → List ℕ → List ℕ → List ℕ → Type 0
Relative base input path body = IfSome base (λ url. parse_relative url input ≡ Ok (with_path (head_only url) (parse_path SpecialNotFile path body)))

-- an input with no scheme and no authority
pub relative_reads : (base : Option Parts) (b : ℕ) (input path body : List ℕ) → IsWebBase base → split_scheme (b ∷ input) ≡ None → Relative base (b ∷ input) path body → Reads base (b ∷ input) (from_base base) path body
relative_reads base b input path body web none relative query fragment = grind (arith, nat_tests, cond, not, is_some, is_empty_nonempty, based_parts)

pub relative_body : (url : Parts) (body : List ℕ) (n : ℕ) → kind_of url ≡ SpecialNotFile → leading_slashes SpecialNotFile body ≡ n → (n == 2) ≡ false →
    parse_relative url body ≡ Ok (with_path (inherit url (n == 0)) (parse_path SpecialNotFile (inherit url (n == 0)).path (drop n body)))
unfolding parse_relative
relative_body url body n kind slashes few = grind (arith, nat_tests)

-- the path that the base leaves to a path with no `/` at its front
abbrev pub folder_of : Option Parts → List ℕ
folder_of None = []
folder_of (Some base) = shorten_path (kind_of base) base.path

one_slash : (rest : List ℕ) → get_or rest 0 0 ≢ 47 → get_or rest 0 0 ≢ 92 → leading_slashes SpecialNotFile (47 ∷ rest) ≡ 1
unfolding leading_slashes
one_slash rest other plain = grind (arith, nat_tests)

pub first_not : (bytes : List ℕ) → All (IsNot 92) bytes → get_or bytes 0 0 ≢ 92
first_not [] plain = λ same. omega arith
first_not (b ∷ bytes) plain = plain 0 0 (omega arith)

-- `/` and then no slash
pub rooted_reads : (base : Option Parts) (rest : List ℕ) → IsWebBase base → get_or rest 0 0 ≢ 47 → get_or rest 0 0 ≢ 92 → Reads base (47 ∷ rest) (from_base base) [] rest
unfolding split_scheme scheme_len
rooted_reads base rest web other plain = relative_reads base 47 rest [] rest web refl (by_base base web)
  where
    by_base : (base : Option Parts) → IsWebBase base → Relative base (47 ∷ rest) [] rest
    by_base None web = tt
    by_base (Some url) web = relative_body url (47 ∷ rest) 1 web (one_slash rest other plain) refl

-- ---- behind a scheme and a host

-- the URL of an authority has the scheme that it was read with
pub authority_scheme : (scheme bytes : List ℕ) → IfOk (parse_authority scheme bytes) (λ url. url.scheme ≡ scheme)
unfolding parse_authority
authority_scheme scheme bytes = grind (arith, nat_tests)

-- the path and the tail of a special URL
finish_special : (scheme path : List ℕ) (query fragment : Option (List ℕ)) (parsed : Parsed Parts) → scheme_type scheme ≡ SpecialNotFile → IfOk parsed (λ url. url.scheme ≡ scheme) →
    and_then (and_then parsed (λ url. Ok (with_path url path))) (λ url. Ok (with_tail (before_tail url query fragment) query fragment)) ≡ and_then parsed (λ url. Ok (with_tail (with_path url path) query fragment))
finish_special scheme path query fragment parsed kind same = grind (arith, nat_tests)

abbrev is_any_slash : ℕ → Bool
is_any_slash b = b == 47 || b == 92

no_slashes : (xs : List ℕ) → All (IsNot 47) xs → All (IsNot 92) xs → All (λ b. is_any_slash b ≡ false) xs
no_slashes xs other plain i d within = grind (arith, nat_tests, other i d within, plain i d within)

-- the slashes end where the host begins
skipped : (host rest : List ℕ) → 0 < length host → All (λ b. is_any_slash b ≡ false) host → skip_slashes (47 ∷ 47 ∷ (host ++ rest)) ≡ host ++ rest
skipped [] rest some plain = absurd (omega arith)
skipped (x ∷ host) rest some plain =
    let two = prefix_len_at is_any_slash (47 ∷ 47 ∷ []) (x ∷ host ++ rest) (All-cons (Passes is_any_slash) 47 (47 ∷ []) refl (All-cons (Passes is_any_slash) 47 [] refl (All-nil (Passes is_any_slash)))) (All-head (λ b. is_any_slash b ≡ false) x host plain) in
    ap (λ n. drop n (47 ∷ 47 ∷ (x ∷ host ++ rest))) two

path_start : (rest : List ℕ) → parse_path_start SpecialNotFile [] (47 ∷ rest) ≡ parse_path SpecialNotFile [] rest
unfolding parse_path_start
path_start rest = grind (arith, nat_tests)

-- nothing follows the host, or `/` does
abbrev pub EndsHost : List ℕ → Type 0
EndsHost rest = get_or rest 0 47 ≡ 47

-- the authority, and the path after it
after_host : (scheme host rest : List ℕ) → scheme_type scheme ≡ SpecialNotFile → All (λ b. is_any_slash b ≡ false) host → EndsHost rest →
    after_double_slash scheme (host ++ rest) ≡ and_then (parse_authority scheme host) (λ url. Ok (with_path url (parse_path_start SpecialNotFile [] rest)))
unfolding after_double_slash
after_host scheme host [] kind plain ends = grind (arith, nat_tests, prefix_len_at, take_at, drop_at)
after_host scheme host (b ∷ rest) kind plain ends = grind (arith, nat_tests, prefix_len_at, take_at, drop_at)

-- the base that counts has the scheme
abbrev pub Fits : List ℕ → Option Parts → Type 0
Fits scheme base = IfSome base (λ url. url.scheme ≡ scheme)

pub fitting : (base : Option Parts) (scheme : List ℕ) → Fits scheme (base_for_scheme base scheme)
fitting base scheme = grind (arith, nat_tests, cond_both, bytes_eq-Decides)

two_slashes : (kind : SchemeType) (rest : List ℕ) → leading_slashes kind (47 ∷ 47 ∷ rest) ≡ 2
unfolding leading_slashes
two_slashes kind rest = refl

-- with a base or with none
with_any_base : (scheme : List ℕ) (base : Option Parts) (rest : List ℕ) → scheme_type scheme ≡ SpecialNotFile → Fits scheme base →
    parse_not_file scheme base (47 ∷ 47 ∷ rest) ≡ after_double_slash scheme (skip_slashes (47 ∷ 47 ∷ rest))
unfolding parse_relative
with_any_base scheme base rest kind fits = grind (arith, nat_tests, two_slashes, cond)

all_reads : (scheme : List ℕ) (base : Option Parts) (body : List ℕ) (query fragment : Option (List ℕ)) → parse_parts scheme base (47 ∷ body) query fragment ≡ parse_all scheme base (47 ∷ body) query fragment
unfolding parse_parts
all_reads scheme base body query fragment = grind (arith, nat_tests)

-- the body behind `//`, where this scheme counts
hosted_parts : (scheme : List ℕ) (base : Option Parts) (host rest : List ℕ) (query fragment : Option (List ℕ)) → scheme_type scheme ≡ SpecialNotFile → Fits scheme base →
    0 < length host → All (IsNot 47) host → All (IsNot 92) host → EndsHost rest →
    parse_parts scheme base (47 ∷ 47 ∷ (host ++ rest)) query fragment
    ≡ and_then (parse_authority scheme host) (λ url. Ok (with_tail (with_path url (parse_path_start SpecialNotFile [] rest)) query fragment))
unfolding parse_body
hosted_parts scheme base host rest query fragment kind fits some other plain ends =
    let slashless = no_slashes host other plain in
    all_reads scheme base (47 ∷ (host ++ rest)) query fragment
    ∙ ap (λ r. and_then r (λ url. Ok (with_tail (before_tail url query fragment) query fragment)))
    (cond-false _ _ _ (ap is_file kind) ∙ with_any_base scheme base (host ++ rest) kind fits ∙ ap (after_double_slash scheme) (skipped host rest some slashless) ∙ after_host scheme host rest kind slashless ends)
    ∙ finish_special scheme (parse_path_start SpecialNotFile [] rest) query fragment (parse_authority scheme host) kind (authority_scheme scheme host)

-- the URL of a scheme and a host is that of the authority, with the path after it
pub web_reads : (base : Option Parts) (scheme host rest : List ℕ) (query fragment : Option (List ℕ)) → IsWebScheme scheme → 0 < length host → All (IsNot 47) host → All (IsNot 92) host → EndsHost rest →
    parse_by_scheme (split_scheme (scheme ++ codes "://" ++ host ++ rest)) base (scheme ++ codes "://" ++ host ++ rest) query fragment
    ≡ and_then (parse_authority (lowercase scheme) host) (λ url. Ok (with_tail (with_path url (parse_path_start SpecialNotFile [] rest)) query fragment))
web_reads base scheme host rest query fragment web some other plain ends =
    let body = 47 ∷ 47 ∷ (host ++ rest) in
    let input = scheme ++ codes "://" ++ host ++ rest in
    let spelled : input ≡ scheme ++ 58 ∷ body = simp append_assoc in
    ap (λ s. parse_by_scheme s base input query fragment) (ap split_scheme spelled ∙ split_web scheme body web)
    ∙ hosted_parts (lowercase scheme) (base_for_scheme base (lowercase scheme)) host rest query fragment (web_type scheme web) (fitting base (lowercase scheme)) some other plain ends

pub absolute_reads : (base : Option Parts) (scheme host rest : List ℕ) → IsWebScheme scheme → 0 < length host → All (IsNot 47) host → All (IsNot 92) host →
    Reads base (scheme ++ codes "://" ++ host ++ 47 ∷ rest) (parse_authority (lowercase scheme) host) [] rest
absolute_reads base scheme host rest web some other plain query fragment =
    rw (web_reads base scheme host (47 ∷ rest) query fragment web some other plain refl, path_start) refl

-- behind the scheme of the base, or why nothing is relative to it
abbrev pub authority_of : Option Parts → List ℕ → Parsed Parts
authority_of None host = Err RelativeUrlWithoutBase
authority_of (Some base) host = cond (cannot_be_a_base base) (Err RelativeUrlWithCannotBeABaseBase) (parse_authority base.scheme host)

pub hosted_reads : (base : Option Parts) (host rest : List ℕ) → IsWebBase base → 0 < length host → All (IsNot 47) host → All (IsNot 92) host →
    Reads base (codes "//" ++ host ++ 47 ∷ rest) (authority_of base host) [] rest
unfolding split_scheme scheme_len
hosted_reads base host rest web some other plain query fragment = grind (arith, nat_tests, is_empty_nonempty, hosted_parts, path_start)
