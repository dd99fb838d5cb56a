-- What the parser has read behind a first segment with no `:`.
use Rattle.std.proofs.Common.{◌≡◌, ℕ, true, false, List, [], ◌∷◌, ◌++◌, Option, Some, None, IfSome, All, refl, ap, ◌∙◌, arith}
use Rattle.std.proofs.lemmas.Bool.{both_ways}
use Rattle.std.proofs.lemmas.Bool.Decides.{nat_tests}
use Rattle.std.proofs.lemmas.List.Elements.{All-head, All-tail, All-weaker}
use Rattle.url.specs.declared.scheme.SchemeType.TheVariants.{SpecialNotFile}
use Rattle.url.specs.Parts.{Parts}
use Rattle.url.specs.Parser.{leading_slashes, split_scheme}
use Rattle.url.specs.Scheme.{is_scheme_byte}
use Rattle.url.proofs.InputLemmas.{Passes}
use Rattle.html_urls.specs.Components.{component, is_component_byte}
use Rattle.html_urls.specs.Hosts.{IsFirstSegment, IsWebBase, is_first_byte}
use Rattle.html_urls.specs.Links.{has_scheme, is_mark}
use Rattle.html_urls.proofs.Components.{component_bytes}
use Rattle.html_urls.proofs.Links.LinkLaw.{IsSchemeOf, own_scheme, scheme_byte_no_mark}
use Rattle.html_urls.proofs.Paths.Opening.{Reads, Relative, folder_of, from_base, relative_body, relative_reads}

no_leading_slash : (b : ℕ) (rest : List ℕ) → is_first_byte b ≡ true → leading_slashes SpecialNotFile (b ∷ rest) ≡ 0
unfolding leading_slashes
no_leading_slash b rest passes = grind (arith, nat_tests)

-- ---- where the first mark is no `:`, no scheme ends

pub mark_passed : (b : ℕ) (rest : List ℕ) → is_mark b ≡ false → has_scheme (b ∷ rest) ≡ has_scheme rest
mark_passed b rest none = grind (arith, nat_tests)

scheme_ends : (scheme body : List ℕ) → All (Passes is_scheme_byte) scheme → has_scheme (scheme ++ 58 ∷ body) ≡ true
scheme_ends [] body passes = refl
scheme_ends (s ∷ scheme) body passes =
    mark_passed s (scheme ++ 58 ∷ body) (scheme_byte_no_mark s (All-head (Passes is_scheme_byte) s scheme passes)) ∙ scheme_ends scheme body (All-tail (Passes is_scheme_byte) s scheme passes)

no_scheme : (input : List ℕ) → has_scheme input ≡ false → split_scheme input ≡ None
no_scheme input other = none (split_scheme input) (own_scheme input)
  where
    none : (split : Option (List ℕ × List ℕ)) → IfSome split (IsSchemeOf input) → split ≡ None
    none None is = refl
    none (Some split) is = absurd (both_ways _ other (ap has_scheme is.1 ∙ scheme_ends split.0 split.1 is.0))

-- ---- a first segment, and a text in it

first_no_mark : (b : ℕ) → is_first_byte b ≡ true → is_mark b ≡ false
first_no_mark b passes = grind (arith, nat_tests)

first_passed : (first rest : List ℕ) → All (λ b. is_first_byte b ≡ true) first → has_scheme (first ++ rest) ≡ has_scheme rest
first_passed [] rest bytes = refl
first_passed (b ∷ first) rest bytes =
    mark_passed b (first ++ rest) (first_no_mark b (All-head (λ b. is_first_byte b ≡ true) b first bytes)) ∙ first_passed first rest (All-tail (λ b. is_first_byte b ≡ true) b first bytes)

pub text_passed : (text rest : List ℕ) → has_scheme (component text ++ rest) ≡ has_scheme rest
text_passed text rest =
    first_passed (component text) rest (All-weaker (λ b. is_component_byte b ≡ true) (λ b. is_first_byte b ≡ true) (λ b passes. grind (arith, nat_tests)) (component text) (component_bytes text))

-- ---- what is read

below_reads : (base : Option Parts) (b : ℕ) (rest : List ℕ) → IsWebBase base → is_first_byte b ≡ true → has_scheme (b ∷ rest) ≡ false → Reads base (b ∷ rest) (from_base base) (folder_of base) (b ∷ rest)
below_reads base b rest web passes other = relative_reads base b rest (folder_of base) (b ∷ rest) web (no_scheme (b ∷ rest) other) (by_base base web)
  where
    by_base : (base : Option Parts) → IsWebBase base → Relative base (b ∷ rest) (folder_of base) (b ∷ rest)
    by_base None web = tt
    by_base (Some url) web = relative_body url (b ∷ rest) 0 web (no_leading_slash b rest passes) refl

-- a first segment, and what goes on in it or ends it
pub segment_reads : (base : Option Parts) (first rest : List ℕ) → IsWebBase base → IsFirstSegment first → has_scheme rest ≡ false → Reads base (first ++ rest) (from_base base) (folder_of base) (first ++ rest)
segment_reads base [] rest web segment other = absurd (omega (arith, segment.0))
segment_reads base (b ∷ first) rest web segment other =
    below_reads base b (first ++ rest) web (All-head (λ b. is_first_byte b ≡ true) b first segment.1) (first_passed (b ∷ first) rest segment.1 ∙ other)
