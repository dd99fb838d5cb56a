-- URLs that are the same up to their query and fragment.
pub mod Fragments
pub mod Queries
use Rattle.std.proofs.Common.{◌≡◌, ℕ, false, List, Option, Some, None, is_some, option_map, refl, sym, ap, ◌∙◌, arith}
use Rattle.std.proofs.lemmas.Bool.Decides.{nat_tests}
use Rattle.std.proofs.lemmas.Bool.Decides.{nat_tests}
use Rattle.percent_encoding.specs.Percent.{percent_encode}
use Rattle.url.specs.declared.scheme.SchemeType.{SchemeType}
use Rattle.url.specs.declared.sets.TheConstants.{FRAGMENT}
use Rattle.url.specs.Parts.{Parts, kind_of, query_set}
use Rattle.url.specs.Parser.{parse_parts, parse_by_scheme, Parsed}
use Rattle.html_urls.specs.Heads.{on_ok}

-- this query, percent-encoded, or else the one that the URL has
abbrev pub query_or : SchemeType → Option (List ℕ) → Option (List ℕ) → Option (List ℕ)
query_or kind (Some query) old = Some (percent_encode (query_set kind) query)
query_or kind None old = old

abbrev pub with_tails : Option (List ℕ) → Option (List ℕ) → Parts → Parts
with_tails query fragment url = record url {
  query = query_or (kind_of url) query url.query;
  fragment = option_map (percent_encode FRAGMENT) fragment;
}

-- both have a query or neither, and then both have a fragment or neither
abbrev pub SameTails : Option (List ℕ) → Option (List ℕ) → Option (List ℕ) → Option (List ℕ) → Type 0
SameTails query other fragment another = (is_some query ≡ is_some other) × (is_some query ≡ false → is_some fragment ≡ is_some another)

parts_tails : (scheme : List ℕ) (base : Option Parts) (body : List ℕ) (q r f g : Option (List ℕ)) → SameTails q r f g → parse_parts scheme base body r g ≡ on_ok (with_tails r g) (parse_parts scheme base body q f)
unfolding parse_parts
parts_tails scheme base body q r f g same = grind (arith, nat_tests)

pub other_tails : (split : Option (List ℕ × List ℕ)) (base : Option Parts) (body : List ℕ) (q r f g : Option (List ℕ)) → SameTails q r f g →
    parse_by_scheme split base body r g ≡ on_ok (with_tails r g) (parse_by_scheme split base body q f)
other_tails split base body q r f g same = grind (arith, nat_tests, parts_tails)

on_ok_both : (f g h : Parts → Parts) → ((url : Parts) → f (g url) ≡ h url) → (parsed : Parsed Parts) → on_ok f (on_ok g parsed) ≡ on_ok h parsed
on_ok_both f g h same parsed = grind (arith, nat_tests)

-- the URL goes on with the other query and fragment, where it does so with one that has these
pub tails_go_on : (split : Option (List ℕ × List ℕ)) (base : Option Parts) (body : List ℕ) (q r f g : Option (List ℕ)) (go_on : Parts → Parts) → SameTails q r f g → ((url : Parts) → go_on (with_tails q f url) ≡ with_tails r g url) →
    parse_by_scheme split base body r g ≡ on_ok go_on (parse_by_scheme split base body q f)
tails_go_on split base body q r f g go_on same goes_on =
    let parsed = parse_by_scheme split base body q f in
    other_tails split base body q r f g same
    ∙ sym (ap (on_ok go_on) (other_tails split base body q q f f (refl, λ _. refl)) ∙ on_ok_both go_on (with_tails q f) (with_tails r g) goes_on parsed)
