-- Percent-encoded bytes are decoded as the bytes, where the set escapes no byte of an escape and no `+`.
use Rattle.std.proofs.Common.{◌≡◌, ◌≢◌, ℕ, ◌+◌, ◌*◌, ◌<◌, Bool, true, false, ◌||◌, ◌==◌, List, [], ◌∷◌, ◌++◌, map, All, sym, refl, ap, ◌∙◌, arith, inl, inr}
use Rattle.std.specs.Char.{digit_value, is_digit}
use Rattle.std.proofs.lemmas.Bool.{cases_Bool, cond-false}
use Rattle.std.proofs.lemmas.Bool.Decides.{nat_tests}
use Rattle.std.proofs.lemmas.List.{map-append}
use Rattle.std.proofs.lemmas.List.Elements.{All-head, All-tail, All-weaker}
use Rattle.form_urlencoded.specs.Form.{decode, plus_to_space}
use Rattle.form_urlencoded.proofs.FormLemmas.{map-plus_to_space}
use Rattle.percent_encoding.specs.declared.ascii_set.AsciiSet.{AsciiSet}
use Rattle.percent_encoding.specs.AsciiSet.{should_percent_encode}
use Rattle.percent_encoding.specs.Percent.{is_escape, percent_decode, percent_encode, percent_encode_byte}
use Rattle.percent_encoding.proofs.PercentLemmas.{All-percent_encode_byte, IsByte, IsEscapeByte, percent_decode-percent_encode_byte, percent_decode_not_percent, percent_encode-nil, percent_encode_escaped, percent_encode_kept}
use Rattle.url.proofs.SetLemmas.{kept_from_passes, passing_outside}
use Rattle.html_urls.proofs.Shapes.Decoding.{kept_percent, plus_digit, plus_percent}

-- `&`, `=`, `+`, `%` or a hexadecimal digit
abbrev pub is_form_byte : ℕ → Bool
is_form_byte b = b == 38 || b == 61 || b == 43 || b == 37 || is_digit b 16

abbrev pub KeepsForm : AsciiSet → Type 0
KeepsForm set = (b : ℕ) → is_form_byte b ≡ true → should_percent_encode set b ≡ false

form_byte_small : (b : ℕ) → is_form_byte b ≡ true → b < 128
form_byte_small b passes = grind (arith, nat_tests)

pub keeps_form : (set : AsciiSet) → passing_outside is_form_byte set ≡ true → KeepsForm set
keeps_form set outside b passes = kept_from_passes is_form_byte set outside b (form_byte_small b passes) passes

-- what is asked of a decoding: how it decodes the first bytes, each of which stands for its image
pub record DecodesFirst (decoding : List ℕ → List ℕ) (image : ℕ → ℕ) : Type 0 where
  pub kept_first : (b : ℕ) (ys : List ℕ) → b ≢ 37 → decoding (b ∷ ys) ≡ image b ∷ decoding ys
  pub kept_before : (c : ℕ) (ys : List ℕ) → is_digit c 16 ≡ false → decoding (37 ∷ c ∷ ys) ≡ 37 ∷ decoding (c ∷ ys)
  pub kept_half : (c d : ℕ) (ys : List ℕ) → is_digit d 16 ≡ false → decoding (37 ∷ c ∷ d ∷ ys) ≡ 37 ∷ decoding (c ∷ d ∷ ys)
  pub whole_escape : (c d : ℕ) (ys : List ℕ) → is_digit c 16 ≡ true → is_digit d 16 ≡ true → decoding (37 ∷ c ∷ d ∷ ys) ≡ (16 * digit_value (image c) + digit_value (image d)) ∷ decoding ys
  pub escaped_byte : (b : ℕ) (ys : List ℕ) → b < 256 → decoding (percent_encode_byte b ++ ys) ≡ b ∷ decoding ys
  pub other_image : (b : ℕ) → b ≢ 43 → image b ≡ b

half_escape : (high low : ℕ) → is_digit low 16 ≡ false → is_escape 37 high low ≡ false
half_escape high low other = grind (arith, nat_tests)

percent_half : (c d : ℕ) (ys : List ℕ) → is_digit d 16 ≡ false → percent_decode (37 ∷ c ∷ d ∷ ys) ≡ 37 ∷ percent_decode (c ∷ d ∷ ys)
unfolding percent_decode
percent_half c d ys other = cond-false _ _ _ (half_escape c d other)

percent_whole : (c d : ℕ) (ys : List ℕ) → is_digit c 16 ≡ true → is_digit d 16 ≡ true → percent_decode (37 ∷ c ∷ d ∷ ys) ≡ (16 * digit_value c + digit_value d) ∷ percent_decode ys
unfolding percent_decode
percent_whole c d ys high low = grind (arith, nat_tests)

pub percent_first : DecodesFirst percent_decode (λ b. b)
percent_first = grind (arith, nat_tests, percent_decode_not_percent, kept_percent, percent_half, percent_whole, percent_decode-percent_encode_byte)

escape_no_plus : (b : ℕ) → IsEscapeByte b → b ≢ 43
escape_no_plus b escape same = grind (arith, nat_tests)

form_escaped : (b : ℕ) (ys : List ℕ) → b < 256 → decode (percent_encode_byte b ++ ys) ≡ b ∷ decode ys
form_escaped b ys small =
    let none = All-weaker IsEscapeByte (λ x. x ≢ 43) escape_no_plus (percent_encode_byte b) (All-percent_encode_byte b) in
    ap percent_decode (map-append plus_to_space (percent_encode_byte b) ys ∙ ap (λ l. l ++ map plus_to_space ys) (map-plus_to_space (percent_encode_byte b) none))
    ∙ percent_decode-percent_encode_byte b (map plus_to_space ys) small

pub form_first : DecodesFirst decode plus_to_space
form_first = grind (arith, nat_tests, percent_decode_not_percent, map, plus_percent, kept_percent, plus_digit, percent_half, percent_whole, form_escaped)

-- ---- the same of what is encoded

module _ (decoding : List ℕ → List ℕ) (image : ℕ → ℕ) (first : DecodesFirst decoding image) (set : AsciiSet) (keeps : KeepsForm set) where
  kept_digit : (b : ℕ) → is_digit b 16 ≡ true → should_percent_encode set b ≡ false
  kept_digit b digit = grind (arith, nat_tests)

  -- another byte than a digit becomes bytes of which the first is none
  no_digit : (d : ℕ) (rest : List ℕ) → is_digit d 16 ≡ false → (e : ℕ) × (more : List ℕ) × (percent_encode set (d ∷ rest) ≡ e ∷ more) × (is_digit e 16 ≡ false)
  unfolding percent_encode_byte
  no_digit d rest other =
      elim (cases_Bool (should_percent_encode set d)) [ inl escaped ↦ (37, _, percent_encode_escaped set d rest escaped, refl) | inr kept ↦ (d, percent_encode set rest, percent_encode_kept set d rest kept, other) ]

  not_percent : (b : ℕ) (rest : List ℕ) → b ≢ 37 → b < 256 → decoding (percent_encode set rest) ≡ decoding rest → decoding (percent_encode set (b ∷ rest)) ≡ decoding (b ∷ rest)
  not_percent b rest other small later = grind (arith, nat_tests, percent_encode_escaped, percent_encode_kept)

  after_percent : (c : ℕ) (rest : List ℕ) → is_digit c 16 ≡ false → decoding (percent_encode set (c ∷ rest)) ≡ decoding (c ∷ rest) → decoding (percent_encode set (37 ∷ c ∷ rest)) ≡ decoding (37 ∷ c ∷ rest)
  after_percent c rest other later =
      let (e, more, is, none) = no_digit c rest other in
      ap decoding (percent_encode_kept set 37 (c ∷ rest) (keeps 37 refl) ∙ ap (λ l. 37 ∷ l) is) ∙ first.kept_before e more none
      ∙ ap (λ l. 37 ∷ decoding l) (sym is) ∙ ap (λ l. 37 ∷ l) later ∙ sym (first.kept_before c rest other)

  after_digit : (c d : ℕ) (rest : List ℕ) → is_digit c 16 ≡ true → is_digit d 16 ≡ false → decoding (percent_encode set (c ∷ d ∷ rest)) ≡ decoding (c ∷ d ∷ rest) → decoding (percent_encode set (37 ∷ c ∷ d ∷ rest)) ≡ decoding (37 ∷ c ∷ d ∷ rest)
  after_digit c d rest digit other later =
      let (e, more, is, none) = no_digit d rest other in
      let kept = percent_encode_kept set c (d ∷ rest) (kept_digit c digit) ∙ ap (λ l. c ∷ l) is in
      ap decoding (percent_encode_kept set 37 (c ∷ d ∷ rest) (keeps 37 refl) ∙ ap (λ l. 37 ∷ l) kept) ∙ first.kept_half c e more none
      ∙ ap (λ l. 37 ∷ decoding l) (sym kept) ∙ ap (λ l. 37 ∷ l) later ∙ sym (first.kept_half c d rest other)

  both_digits : (c d : ℕ) (rest : List ℕ) → is_digit c 16 ≡ true → is_digit d 16 ≡ true → decoding (percent_encode set rest) ≡ decoding rest → decoding (percent_encode set (37 ∷ c ∷ d ∷ rest)) ≡ decoding (37 ∷ c ∷ d ∷ rest)
  both_digits c d rest high low later = grind (arith, nat_tests, percent_encode_kept, kept_digit)

  lone_digit : (c : ℕ) → is_digit c 16 ≡ true → decoding (percent_encode set (37 ∷ c ∷ [])) ≡ decoding (37 ∷ c ∷ [])
  lone_digit c digit = grind (arith, nat_tests, percent_encode_kept, kept_digit, percent_encode-nil)

  -- whether the first byte is `%`
  by_first : (b : ℕ) (rest : List ℕ) → b < 256 → decoding (percent_encode set rest) ≡ decoding rest → (decoding (percent_encode set (37 ∷ rest)) ≡ decoding (37 ∷ rest)) → decoding (percent_encode set (b ∷ rest)) ≡ decoding (b ∷ rest)
  by_first b rest small later percent = grind (arith, nat_tests, not_percent)

  pub decoded_still : (bytes : List ℕ) → All IsByte bytes → decoding (percent_encode set bytes) ≡ decoding bytes
  decoded_still [] small = ap decoding (percent_encode-nil set)
  decoded_still (b ∷ []) small =
      let nothing = percent_encode-nil set in
      by_first b [] (All-head IsByte b [] small) (ap decoding nothing) (ap decoding (percent_encode_kept set 37 [] (keeps 37 refl) ∙ ap (λ l. 37 ∷ l) nothing))
  decoded_still (b ∷ c ∷ []) small =
      let later = decoded_still (c ∷ []) (All-tail IsByte b (c ∷ []) small) in
      by_first b (c ∷ []) (All-head IsByte b (c ∷ []) small) later
      (elim (cases_Bool (is_digit c 16)) [ inl digit ↦ lone_digit c digit | inr other ↦ after_percent c [] other later ])
  decoded_still (b ∷ c ∷ d ∷ rest) small =
      let tail = All-tail IsByte b (c ∷ d ∷ rest) small in
      let later = decoded_still (c ∷ d ∷ rest) tail in
      let last = decoded_still rest (All-tail IsByte d rest (All-tail IsByte c (d ∷ rest) tail)) in
      by_first b (c ∷ d ∷ rest) (All-head IsByte b (c ∷ d ∷ rest) small) later
      (elim (cases_Bool (is_digit c 16)) [ inl high ↦ elim (cases_Bool (is_digit d 16)) [ inl low ↦ both_digits c d rest high low last | inr other ↦ after_digit c d rest high other later ] | inr other ↦ after_percent c (d ∷ rest) other later ])
