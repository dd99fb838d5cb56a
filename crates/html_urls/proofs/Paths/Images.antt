-- The type of an image before the first `,` of a path.
use Rattle.std.proofs.Common.{◌≡◌, ℕ, ◌+◌, Bool, true, not, ◌&&◌, ◌==◌, nat_lt, List, [], ◌∷◌, ◌++◌, length, get_or, take, drop, take_at, lt_of_not-le, bytes_eq, All, refl, sym, ap, ◌∙◌, subst, append_assoc, arith}
use Rattle.std.specs.Char.{to_ascii_lowercase}
use Rattle.std.specs.List.{list_all}
use Rattle.std.proofs.lemmas.Bool.{and_parts, eqb-true}
use Rattle.std.proofs.lemmas.Bool.Decides.{nat_tests}
use Rattle.std.proofs.lemmas.List.{get_or_at, get_or_past}
use Rattle.std.proofs.lemmas.List.Elements.{All-cons, All-head, All-nil, All-tail, All-weaker}
use Rattle.std.proofs.lemmas.Slice.Eq.{bytes_eq-Decides}
use Rattle.percent_encoding.specs.Percent.{IsKept, percent_encode}
use Rattle.percent_encoding.proofs.PercentLemmas.{percent_encode-append, percent_encode_kept, percent_encode_unchanged}
use Rattle.url.specs.declared.sets.TheConstants.{OPAQUE_PATH}
use Rattle.url.specs.Input.{lowercase}
use Rattle.url.proofs.InputLemmas.{All_from_list_all, Passes, prefix_len_at, split_around}
use Rattle.url.proofs.SetLemmas.{kept_from_passes}
use Rattle.html_urls.specs.Images.{comma_at, has_image_type, is_image_type}

-- letters, digits, `/`, `;` and a few more, which stand in a path as they are
abbrev is_type_byte : ℕ → Bool
is_type_byte b = nat_lt 46 b && nat_lt b 123 && not (b == 63)

abbrev IsTypeByte : ℕ → Type 0
IsTypeByte b = Passes is_type_byte b

upper_byte : (b : ℕ) → IsTypeByte (to_ascii_lowercase b) → IsTypeByte b
upper_byte b passes = grind (arith, nat_tests)

upper_bytes : (xs : List ℕ) → All IsTypeByte (lowercase xs) → All IsTypeByte xs
upper_bytes [] all = All-nil IsTypeByte
upper_bytes (x ∷ xs) all =
    All-cons IsTypeByte x xs (upper_byte x (All-head IsTypeByte (to_ascii_lowercase x) (lowercase xs) all)) (upper_bytes xs (All-tail IsTypeByte (to_ascii_lowercase x) (lowercase xs) all))

known_bytes : (type : List ℕ) → is_image_type type ≡ true → list_all is_type_byte (lowercase type) ≡ true
known_bytes type known = grind (arith, nat_tests, bytes_eq, bytes_eq-Decides)

type_bytes : (type : List ℕ) → is_image_type type ≡ true → All IsTypeByte type
type_bytes type known = upper_bytes type (All_from_list_all is_type_byte (lowercase type) (known_bytes type known))

-- ---- where it ends

record ImageBegins (body : List ℕ) : Type 0 where
  type : List ℕ
  rest : List ℕ
  spelled : body ≡ type ++ 44 ∷ rest
  known : is_image_type type ≡ true

image_begins : (body : List ℕ) → has_image_type body ≡ true → ImageBegins body
image_begins body has =
    let n = comma_at body in
    let both = and_parts (get_or body n 0 == 44) (is_image_type (take n body)) has in
    let same = eqb-true (get_or body n 0) 44 both.0 in
    record { type = take n body; rest = drop (n + 1) body; spelled = split_around body n 44 (lt_of_not-le (λ past. absurd (omega (arith, sym same ∙ get_or_past body n 0 past)))) same; known = both.1 }

has_type : (type rest : List ℕ) → is_image_type type ≡ true → has_image_type (type ++ 44 ∷ rest) ≡ true
has_type type rest known =
    by_end (comma_at (type ++ 44 ∷ rest)) (prefix_len_at (λ b. not (b == 44)) type (44 ∷ rest) (All-weaker IsTypeByte (Passes (λ b. not (b == 44))) (λ b passes. grind (arith, nat_tests)) type (type_bytes type known)) refl)
  where
    by_end : (n : ℕ) → n ≡ length type → (get_or (type ++ 44 ∷ rest) n 0 == 44 && is_image_type (take n (type ++ 44 ∷ rest))) ≡ true
    by_end n is = rw (get_or_at type 44 rest 0 n (sym is), take_at type (44 ∷ rest) n (sym is)) known

-- it stays where the path goes on, and where it is percent-encoded
pub image_goes_on : (path more : List ℕ) → has_image_type path ≡ true → has_image_type (path ++ more) ≡ true
image_goes_on path more has =
    let is = image_begins path has in
    subst (λ p. has_image_type p ≡ true) (sym (ap (λ p. p ++ more) is.spelled ∙ append_assoc is.type (44 ∷ is.rest) more)) (has_type is.type (is.rest ++ more) is.known)

kept_byte : (b : ℕ) → IsTypeByte b → IsKept OPAQUE_PATH b
kept_byte b passes = kept_from_passes is_type_byte OPAQUE_PATH refl b (grind (arith, nat_tests)) passes

pub image_encoded : (path : List ℕ) → has_image_type path ≡ true → has_image_type (percent_encode OPAQUE_PATH path) ≡ true
image_encoded path has =
    let is = image_begins path has in
    let type_kept = percent_encode_unchanged OPAQUE_PATH is.type (All-weaker IsTypeByte (IsKept OPAQUE_PATH) kept_byte is.type (type_bytes is.type is.known)) in
    let comma_kept = percent_encode_kept OPAQUE_PATH 44 is.rest (kept_from_passes (λ b. b == 44) OPAQUE_PATH refl 44 (omega arith) refl) in
    subst (λ p. has_image_type p ≡ true)
    (sym (ap (percent_encode OPAQUE_PATH) is.spelled ∙ percent_encode-append OPAQUE_PATH is.type (44 ∷ is.rest) ∙ ap (λ l. l ++ percent_encode OPAQUE_PATH (44 ∷ is.rest)) type_kept ∙ ap (λ l. is.type ++ l) comma_kept))
    (has_type is.type (percent_encode OPAQUE_PATH is.rest) is.known)
