-- An address: its signs, the components between them, and its length.
use Rattle.std.proofs.Common.{◌≡◌, ◌⊎◌, ℕ, ◌+◌, ◌*◌, ◌-◌, ◌≤◌, ◌<◌, zero, suc, max, true, false, not, ◌||◌, List, [], ◌∷◌, ◌++◌, length, take, drop, if◌then◌else◌, bytes_eq, All, sym, refl, ap, ◌∙◌, subst, length-append, length-take-le, arith, inl, inr}
use Rattle.std.specs.List.{position_or_len}
use Rattle.std.proofs.lemmas.Bool.{cases_Bool, cond-true, cond-false}
use Rattle.std.proofs.lemmas.Bool.Decides.{nat_tests}
use Rattle.std.proofs.lemmas.Slice.Eq.{bytes_eq-Decides}
use Rattle.std.proofs.lemmas.List.Elements.{All-cons, All-head, All-nil, All-tail, All-weaker}
use Rattle.std.proofs.lemmas.List.Sums.{sum_by-cons}
use Rattle.percent_encoding.specs.AsciiSet.{should_percent_encode}
use Rattle.percent_encoding.specs.Percent.{percent_encode_byte}
use Rattle.percent_encoding.proofs.PercentLemmas.{percent_encode-nil, percent_encode_escaped, percent_encode_kept}
use Rattle.url.proofs.SetLemmas.{kept_by_smaller, kept_from_passes, passes_from_kept}
use Rattle.url.proofs.InputLemmas.{All-take-prefix_len, Passes}
use Rattle.percent_encoding.proofs.AsciiSetLemmas.{ascii_from_kept}
use Rattle.html_urls.specs.declared.component.TheConstants.{ADDRESS, COMPONENT}
use Rattle.html_urls.specs.Components.{IsPiece, address, component, encoded_count, is_encoded, is_sign, is_unreserved_byte, sign_count}
use Rattle.html_urls.proofs.OpenEscapes.{not_true}
use Rattle.html_urls.proofs.Components.{encoded_parts, length-percent_encode_byte}

-- ---- bytes that are kept

kept_address : (b : ℕ) → should_percent_encode COMPONENT b ≡ false → should_percent_encode ADDRESS b ≡ false
kept_address = kept_by_smaller COMPONENT ADDRESS refl

kept_component : (b : ℕ) → should_percent_encode ADDRESS b ≡ false → is_sign b ≡ false → should_percent_encode COMPONENT b ≡ false
kept_component b kept other =
    let passes : (is_unreserved_byte b || is_sign b) ≡ true = passes_from_kept ADDRESS (λ x. is_unreserved_byte x || is_sign x) refl b kept in
    kept_from_passes is_unreserved_byte COMPONENT refl b (ascii_from_kept ADDRESS b kept) (grind (arith, nat_tests))

sign_kept : (b : ℕ) → is_sign b ≡ true → should_percent_encode ADDRESS b ≡ false
sign_kept b sign = kept_from_passes is_sign ADDRESS refl b (grind (arith, nat_tests)) sign

sign_encoded : (b : ℕ) → is_sign b ≡ true → is_encoded b ≡ true
sign_encoded b sign =
    elim (cases_Bool (is_encoded b)) [ inl encoded ↦ encoded | inr kept ↦ absurd (none (passes_from_kept COMPONENT is_unreserved_byte refl b kept)) ]
  where
    none : is_unreserved_byte b ≡ true → ⊥
    none unreserved = grind (arith, nat_tests)

same_byte : (b : ℕ) → is_sign b ≡ false → should_percent_encode ADDRESS b ≡ should_percent_encode COMPONENT b
same_byte b other =
    elim (cases_Bool (should_percent_encode COMPONENT b)) [
      | inl encoded ↦ elim (cases_Bool (should_percent_encode ADDRESS b)) [ inl escaped ↦ escaped ∙ sym encoded | inr kept ↦ kept ∙ sym (kept_component b kept other) ]
      | inr kept ↦ kept_address b kept ∙ sym kept
    ]

-- ---- pieces

unsigned : (bytes : List ℕ) → All (λ b. is_sign b ≡ false) bytes → address bytes ≡ component bytes
unsigned [] none = percent_encode-nil ADDRESS ∙ sym (percent_encode-nil COMPONENT)
unsigned (b ∷ bytes) none =
    let later = unsigned bytes (All-tail (λ b. is_sign b ≡ false) b bytes none) in
    let same = same_byte b (All-head (λ b. is_sign b ≡ false) b bytes none) in
    elim (cases_Bool (should_percent_encode COMPONENT b)) [
      | inl escaped ↦ percent_encode_escaped ADDRESS b bytes (same ∙ escaped) ∙ ap (λ l. percent_encode_byte b ++ l) later ∙ sym (percent_encode_escaped COMPONENT b bytes escaped)
      | inr kept ↦ percent_encode_kept ADDRESS b bytes (same ∙ kept) ∙ ap (λ l. b ∷ l) later ∙ sym (percent_encode_kept COMPONENT b bytes kept)
    ]

sign_alone : (b : ℕ) → is_sign b ≡ true → address (b ∷ []) ≡ b ∷ []
sign_alone b sign = percent_encode_kept ADDRESS b [] (sign_kept b sign) ∙ ap (λ l. b ∷ l) (percent_encode-nil ADDRESS)

sign_is : (b : ℕ) → is_sign b ≡ true → (b ≡ 64) ⊎ (b ≡ 43)
sign_is b sign = grind (arith, nat_tests)

other_byte : (b : ℕ) → (b ∷ [] ≡ 64 ∷ [] → ⊥) → (b ∷ [] ≡ 43 ∷ [] → ⊥) → is_sign b ≡ false
other_byte b no_at no_plus =
    elim (cases_Bool (is_sign b)) [ inl sign ↦ absurd (elim (sign_is b sign) [ inl at_sign ↦ no_at (ap (λ x. x ∷ []) at_sign) | inr plus ↦ no_plus (ap (λ x. x ∷ []) plus) ]) | inr none ↦ none ]

-- a piece that is no sign
piece_is : (bytes : List ℕ) → IsPiece bytes → (bytes ≡ 64 ∷ [] → ⊥) → (bytes ≡ 43 ∷ [] → ⊥) → address bytes ≡ component bytes
piece_is bytes (inr none) no_at no_plus = unsigned bytes none
piece_is [] (inl one) no_at no_plus = absurd (omega (arith, one))
piece_is (b ∷ []) (inl one) no_at no_plus = unsigned (b ∷ []) (All-cons (λ b. is_sign b ≡ false) b [] (other_byte b no_at no_plus) (All-nil (λ b. is_sign b ≡ false)))
piece_is (b ∷ c ∷ bytes) (inl one) no_at no_plus = absurd (omega (arith, one))

bytes_same : (xs ys : List ℕ) → bytes_eq xs ys ≡ true → xs ≡ ys
bytes_same xs ys is = grind (arith, nat_tests, bytes_eq, bytes_eq-Decides)

bytes_other : (xs ys : List ℕ) → bytes_eq xs ys ≡ false → xs ≡ ys → ⊥
bytes_other xs ys is same = grind (arith, nat_tests, bytes_eq, bytes_eq-Decides)

pub sign_piece : (bytes : List ℕ) (b : ℕ) → is_sign b ≡ true → bytes_eq bytes (b ∷ []) ≡ true → b ∷ [] ≡ address bytes
sign_piece bytes b sign is = sym (sign_alone b sign) ∙ ap address (sym (bytes_same bytes (b ∷ []) is))

pub other_piece : (bytes : List ℕ) → IsPiece bytes → bytes_eq bytes (64 ∷ []) ≡ false → bytes_eq bytes (43 ∷ []) ≡ false → address bytes ≡ component bytes
other_piece bytes piece no_at no_plus = piece_is bytes piece (bytes_other bytes (64 ∷ []) no_at) (bytes_other bytes (43 ∷ []) no_plus)

-- the address of a text in two parts
pub address_parts : (text front back : List ℕ) (n : ℕ) → front ≡ take n text → back ≡ drop n text → address text ≡ address front ++ address back
address_parts = encoded_parts ADDRESS

greatest : (n : ℕ) → max (suc n) 1 ≡ suc n
greatest n = omega arith

-- what stands before the first sign, or this
pub first_is : (bytes piece : List ℕ) (n : ℕ) → 0 < length bytes → n ≡ position_or_len is_sign bytes → piece ≡ take (max n 1) bytes → IsPiece piece
first_is bytes piece zero some is same = inl (ap length same ∙ length-take-le 1 bytes some)
first_is bytes piece (suc n) some is taken =
    let same : piece ≡ take (suc n) bytes = taken ∙ ap (λ k. take k bytes) (greatest n) in
    inr (subst (All (λ b. is_sign b ≡ false)) (sym same) (All-weaker (Passes (λ b. not (is_sign b))) (λ b. is_sign b ≡ false) (λ b passes. not_true (is_sign b) passes) (take (suc n) bytes) (subst (λ k. All (Passes (λ b. not (is_sign b))) (take k bytes)) (sym is) (All-take-prefix_len (λ b. not (is_sign b)) bytes))))

-- ---- the length

counted : (b : ℕ) (bytes : List ℕ) → (encoded_count (b ∷ bytes) ≡ (if is_encoded b then 1 else 0) + encoded_count bytes) × (sign_count (b ∷ bytes) ≡ (if is_sign b then 1 else 0) + sign_count bytes)
counted b bytes = (sum_by-cons (λ c. if is_encoded c then 1 else 0) b bytes, sum_by-cons (λ c. if is_sign c then 1 else 0) b bytes)

abbrev Counts : List ℕ → Type 0
Counts bytes = (sign_count bytes ≤ encoded_count bytes) × (length (address bytes) ≡ length bytes + (encoded_count bytes - sign_count bytes) * 2)

both : (bytes : List ℕ) → Counts bytes
both [] = (omega arith, ap length (percent_encode-nil ADDRESS))
both (b ∷ bytes) =
    let later = both bytes in
    let now = counted b bytes in
    elim (cases_Bool (is_sign b)) [
      | inl sign ↦ let e : encoded_count (b ∷ bytes) ≡ 1 + encoded_count bytes = now.0 ∙ ap (λ n. n + encoded_count bytes) (cond-true _ _ _ (sign_encoded b sign)) in
          let s : sign_count (b ∷ bytes) ≡ 1 + sign_count bytes = now.1 ∙ ap (λ n. n + sign_count bytes) (cond-true _ _ _ sign) in
          let l = ap length (percent_encode_kept ADDRESS b bytes (sign_kept b sign)) in
          (omega (arith, e, s, later.0), omega (arith, e, s, l, later.0, later.1))
      | inr other ↦ let s : sign_count (b ∷ bytes) ≡ 0 + sign_count bytes = now.1 ∙ ap (λ n. n + sign_count bytes) (cond-false _ _ _ other) in
          elim (cases_Bool (should_percent_encode COMPONENT b)) [
            | inl escaped ↦ let e : encoded_count (b ∷ bytes) ≡ 1 + encoded_count bytes = now.0 ∙ ap (λ n. n + encoded_count bytes) (cond-true _ _ _ escaped) in
                let l = ap length (percent_encode_escaped ADDRESS b bytes (same_byte b other ∙ escaped)) in
                let three = length-percent_encode_byte b in
                let sum = length-append (percent_encode_byte b) (address bytes) in
                (omega (arith, e, s, later.0), omega (arith, e, s, l, three, sum, later.0, later.1))
            | inr kept ↦ let e : encoded_count (b ∷ bytes) ≡ 0 + encoded_count bytes = now.0 ∙ ap (λ n. n + encoded_count bytes) (cond-false _ _ _ kept) in
                let l = ap length (percent_encode_kept ADDRESS b bytes (same_byte b other ∙ kept)) in
                (omega (arith, e, s, later.0), omega (arith, e, s, l, later.0, later.1))
          ]
    ]

pub signs_are_encoded : (bytes : List ℕ) → sign_count bytes ≤ encoded_count bytes
signs_are_encoded bytes = (both bytes).0

pub address_length_is : (bytes : List ℕ) → length (address bytes) ≡ length bytes + (encoded_count bytes - sign_count bytes) * 2
address_length_is bytes = (both bytes).1
