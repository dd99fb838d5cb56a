-- Which scheme the parser's answer has.
use Rattle.std.proofs.Common.{◌≡◌, ℕ, Bool, List, [], take, drop, Option, Some, None, Ok, Err, IfSome, IfOk, codes, refl, arith}
use Rattle.std.proofs.lemmas.Bool.Decides.{nat_tests}
use Rattle.std.proofs.lemmas.Bool.{cond_both}
use Rattle.url.specs.declared.error.ParseError.TheVariants.{RelativeUrlWithCannotBeABaseBase}
use Rattle.url.specs.Input.{lowercase}
use Rattle.url.specs.Scheme.{scheme_type}
use Rattle.url.specs.Path.{segment_len, parse_path_start, escape_end}
use Rattle.url.specs.Parts.{Parts}
use Rattle.url.specs.Parser.{Parsed, and_then, parse_authority, with_path, after_double_slash, parse_non_special, parse_relative, after_file_double_slash, inherit_file, file_start, parse_file, parse_not_file, parse_body, with_tail, before_tail, parse_all, parse_parts, base_for_scheme, parse_by_scheme}
use Rattle.url.proofs.SchemeLemmas.{file_from_scheme_type, file_from_is_file}
use Rattle.html_urls.proofs.Paths.Opening.{Fits, fitting, authority_scheme}

-- the URL, if there is one, has this scheme
abbrev pub HasScheme : List ℕ → Parsed Parts → Type 0
HasScheme scheme parsed = IfOk parsed (λ url. url.scheme ≡ scheme)

next_scheme : (scheme : List ℕ) (parsed : Parsed Parts) (change : Parts → Parts) → ((url : Parts) → (change url).scheme ≡ url.scheme) → HasScheme scheme parsed → HasScheme scheme (and_then parsed (λ url. Ok (change url)))
next_scheme scheme parsed change keeps has = grind (arith, nat_tests)

double_scheme : (scheme bytes : List ℕ) → HasScheme scheme (after_double_slash scheme bytes)
unfolding after_double_slash
double_scheme scheme bytes =
    next_scheme scheme (parse_authority scheme (take (segment_len (scheme_type scheme) bytes) bytes)) (λ url. with_path url (parse_path_start (scheme_type scheme) [] (drop (segment_len (scheme_type scheme) bytes) bytes))) (λ url. refl) (authority_scheme scheme _)

non_special_scheme : (scheme body : List ℕ) → HasScheme scheme (parse_non_special scheme body)
unfolding parse_non_special
non_special_scheme scheme body = grind (arith, nat_tests, cond_both, double_scheme)

relative_scheme : (base : Parts) (body : List ℕ) → HasScheme base.scheme (parse_relative base body)
unfolding parse_relative
relative_scheme base body = grind (arith, nat_tests, cond_both, double_scheme)

file_double_scheme : (bytes : List ℕ) → HasScheme (codes "file") (after_file_double_slash bytes)
unfolding after_file_double_slash
file_double_scheme bytes = grind (arith, nat_tests)

start_scheme : (base : Option Parts) (relative : Bool) (path : List ℕ) → Fits (codes "file") base → (file_start base relative path).scheme ≡ codes "file"
unfolding inherit_file
start_scheme base relative path fits = grind (arith, nat_tests)

file_scheme : (base : Option Parts) (body : List ℕ) → Fits (codes "file") base → HasScheme (codes "file") (parse_file base body)
unfolding parse_file
file_scheme base body fits = grind (arith, nat_tests, cond_both, file_double_scheme, start_scheme)

not_file_scheme : (scheme : List ℕ) (base : Option Parts) (body : List ℕ) → Fits scheme base → HasScheme scheme (parse_not_file scheme base body)
not_file_scheme scheme base body fits = grind (arith, nat_tests, relative_scheme, cond_both, double_scheme, non_special_scheme)

body_scheme : (scheme : List ℕ) (base : Option Parts) (body : List ℕ) → Fits scheme base → HasScheme scheme (parse_body scheme base body)
unfolding parse_body
body_scheme scheme base body fits = grind (arith, nat_tests, cond_both, file_from_scheme_type, file_from_is_file, file_scheme, not_file_scheme)

all_scheme : (scheme : List ℕ) (base : Option Parts) (body : List ℕ) (query fragment : Option (List ℕ)) → Fits scheme base → HasScheme scheme (parse_all scheme base body query fragment)
all_scheme scheme base body query fragment fits =
    next_scheme scheme (parse_body scheme base body) (λ url. with_tail (before_tail url query fragment) query fragment)
    (λ url. cond_both _ (with_path url (escape_end url.path)) url (λ (u : Parts). u.scheme ≡ url.scheme) (λ _. refl) (λ _. refl)) (body_scheme scheme base body fits)

pub parts_scheme : (scheme : List ℕ) (base : Option Parts) (body : List ℕ) (query fragment : Option (List ℕ)) → Fits scheme base → HasScheme scheme (parse_parts scheme base body query fragment)
unfolding parse_parts
parts_scheme scheme base body query fragment fits = grind (arith, nat_tests, all_scheme, cond_both)

-- the scheme of the input, or of the base
pub parsed_scheme : (P : List ℕ → Type 0) (split : Option (List ℕ × List ℕ)) (base : Option Parts) (body : List ℕ) (query fragment : Option (List ℕ)) →
    IfSome split (λ s. P (lowercase s.0)) → IfSome base (λ page. P page.scheme) → IfOk (parse_by_scheme split base body query fragment) (λ url. P url.scheme)
parsed_scheme P (Some split) base body query fragment own inherited =
    of_scheme (lowercase split.0) (parse_parts (lowercase split.0) (base_for_scheme base (lowercase split.0)) split.1 query fragment) own (parts_scheme (lowercase split.0) (base_for_scheme base (lowercase split.0)) split.1 query fragment (fitting base (lowercase split.0)))
  where
    of_scheme : (scheme : List ℕ) (parsed : Parsed Parts) → P scheme → HasScheme scheme parsed → IfOk parsed (λ url. P url.scheme)
    of_scheme scheme parsed holds has = grind (arith, nat_tests)
parsed_scheme P None None body query fragment own inherited = tt
parsed_scheme P None (Some base) body query fragment own inherited =
    cond_both _ (Err RelativeUrlWithCannotBeABaseBase) (parse_parts base.scheme (Some base) body query fragment) (λ (r : Parsed Parts). IfOk r (λ url. P url.scheme)) (λ _. tt)
    (λ _. of_scheme (parse_parts base.scheme (Some base) body query fragment) (parts_scheme base.scheme (Some base) body query fragment refl))
  where
    of_scheme : (parsed : Parsed Parts) → HasScheme base.scheme parsed → IfOk parsed (λ url. P url.scheme)
    of_scheme parsed has = grind (arith, nat_tests)
