-- What is written for a string: byte by byte, and how long it is.
use Rattle.std.proofs.Common.{◌≡◌, ℕ, zero, suc, ◌*◌, ◌/◌, ◌%◌, ◌<◌, ◌≤◌, ◌||◌, ◌&&◌, ◌==◌, not, Bool, true, false, List, [], ◌∷◌, ◌++◌, bytes_eq, codes, length, nat_lt, refl, ap, ◌∙◌, arith, length-append, inl, inr}
use Rattle.std.specs.Char.{digit_char}
use Rattle.std.proofs.lemmas.Bool.{and_parts, cases_Bool, cases_eq, ltb-true, ne_eqb}
use Rattle.std.proofs.lemmas.Bool.Decides.{nat_tests}
use Rattle.std.proofs.lemmas.List.Concat.{flat_map-append}
use Rattle.std.specs.Cmp.Lexicographic.{bytes_decides}
use Rattle.hesc_specs.specs.Text.Ascii.{double_quote, less_than}
use Rattle.json.specs.Print.{escape, escape_byte, escape_letter, quoted}
use Rattle.html_json.specs.AppliedStrings.{content_keeps}
use Rattle.html_json.specs.Encoding.{json_encoding, json_image, less_than_escape}
use Rattle.html_json.specs.Strings.{content_encoding, content_image, is_escaped}

-- ---- tests of all bytes below a number

abbrev all_below : (ℕ → Bool) → ℕ → Bool
all_below test zero = true
all_below test (suc n) = test n && all_below test n

below : (test : ℕ → Bool) (n : ℕ) → all_below test n ≡ true → (b : ℕ) → b < n → test b ≡ true
below test zero all b less = absurd (omega arith)
below test (suc n) all b less =
    let parts = and_parts (test n) (all_below test n) all in
    elim (cases_eq b n) [ inl same ↦ rw same parts.0 | inr other ↦ below test n parts.1 b (omega arith) ]

pub escaped_below : (b : ℕ) → is_escaped b ≡ true → b < 93
escaped_below b hit = grind (arith, nat_tests)

-- ---- lengths

abbrev is_short : ℕ → Bool
is_short b = nat_lt (length (content_image b)) 7 && nat_lt 0 (length (content_image b))

all_short : all_below is_short 93 ≡ true
unfolding escape_byte
all_short = refl

image_short : (b : ℕ) → (length (content_image b) ≤ 6) × (0 < length (content_image b))
image_short b = elim (cases_Bool (is_escaped b)) [
  | inl hit ↦
      let parts = and_parts (nat_lt (length (content_image b)) 7) (nat_lt 0 (length (content_image b))) (below is_short 93 all_short b (escaped_below b hit)) in
      let short = ltb-true (length (content_image b)) 7 parts.0 in
      (omega arith, ltb-true 0 (length (content_image b)) parts.1)
  | inr other ↦ rw (content_keeps b other) (omega arith, omega arith)
]

pub content_at_most_six : (text : List ℕ) → length (content_encoding text) ≤ length text * 6
content_at_most_six [] = omega arith
content_at_most_six (b ∷ text) =
    let here = image_short b in
    omega (arith, content_at_most_six text, here.0, length-append (content_image b) (content_encoding text))

pub content_empty_alone : (text : List ℕ) → content_encoding text ≡ [] → length text ≡ 0
content_empty_alone [] none = refl
content_empty_alone (b ∷ text) none =
    let here = image_short b in
    let nothing : length (content_image b ++ content_encoding text) ≡ 0 = ap length none in
    absurd (omega (arith, here.1, nothing, length-append (content_image b) (content_encoding text)))

-- ---- the escapes

abbrev by_letter : ℕ → List ℕ
by_letter b = codes "\\" ++ escape_letter b ∷ []

abbrev by_number : ℕ → List ℕ
by_number b = codes "\\u00" ++ digit_char (b / 16) ∷ digit_char (b % 16) ∷ []

abbrev is_by_letter : ℕ → Bool
is_by_letter b = (escape_letter b == 0) || bytes_eq (content_image b) (by_letter b)

abbrev is_by_number : ℕ → Bool
is_by_number b = not (escape_letter b == 0) || bytes_eq (content_image b) (by_number b)

all_by_letter : all_below is_by_letter 93 ≡ true
unfolding escape_byte
all_by_letter = refl

all_by_number : all_below is_by_number 32 ≡ true
unfolding escape_byte
all_by_number = refl

unless : (first second : Bool) → (first || second) ≡ true → first ≡ false → second ≡ true
unless true second either is = cc
unless false second either is = either

pub letter_image : (b : ℕ) → is_escaped b ≡ true → 0 < escape_letter b → content_image b ≡ by_letter b
letter_image b hit some =
    let none : (escape_letter b == 0) ≡ false = ne_eqb (escape_letter b) 0 (λ zero. omega arith) in
    (bytes_decides (content_image b) (by_letter b)).0
    (unless (escape_letter b == 0) (bytes_eq (content_image b) (by_letter b)) (below is_by_letter 93 all_by_letter b (escaped_below b hit)) none)

-- of another byte than `<` that has no letter
control : (b : ℕ) → is_escaped b ≡ true → (b ≡ less_than → ⊥) → escape_letter b ≡ 0 → b < 32
control b hit other none = grind (arith, nat_tests)

pub number_image : (b : ℕ) → is_escaped b ≡ true → (b ≡ less_than → ⊥) → escape_letter b ≡ 0 → content_image b ≡ by_number b
number_image b hit other none =
    let some : not (escape_letter b == 0) ≡ false = rw none refl in
    (bytes_decides (content_image b) (by_number b)).0
    (unless (not (escape_letter b == 0)) (bytes_eq (content_image b) (by_number b)) (below is_by_number 32 all_by_number b (control b hit other none)) some)

pub less_image : content_image less_than ≡ less_than_escape
unfolding escape_byte
less_image = refl

-- ---- the whole string

escape_encoding : (text : List ℕ) → json_encoding (escape text) ≡ content_encoding text
escape_encoding [] = refl
escape_encoding (b ∷ text) = flat_map-append json_image (escape_byte b) (escape text) ∙ ap (λ l. content_image b ++ l) (escape_encoding text)

pub quoted_encoding : (text : List ℕ) → json_encoding (quoted text) ≡ double_quote ∷ (content_encoding text ++ double_quote ∷ [])
quoted_encoding text =
    ap (λ l. double_quote ∷ l)
    (flat_map-append json_image (escape text) (double_quote ∷ []) ∙ ap (λ l. l ++ double_quote ∷ []) (escape_encoding text))
