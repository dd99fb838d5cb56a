-- The content of a string stays the same: an escape holds no `<`, and elsewhere `\u003C` is that character.
use Rattle.std.proofs.Common.{◌≡◌, ℕ, Bool, true, false, cond, ◌==◌, ◌&&◌, nat_lt, List, [], ◌∷◌, ◌++◌, Option, Some, None, option_and_then, inl, inr, refl, sym, ap, ◌∙◌, subst}
use Rattle.std.specs.Char.{is_digit, encode_utf8}
use Rattle.std.proofs.lemmas.Bool.{and_parts, cases_Bool, eqb-true, false≢true}
use Rattle.hesc_specs.specs.Text.Ascii.{less_than}
use Rattle.json.specs.Ascii as ascii
use Rattle.json.specs.Text.{Within, plain, after_backslash, after_u, after_high, code_unit, content, is_high_surrogate, is_low_surrogate, prepend, short_escape, surrogate_pair}
use Rattle.html_json.specs.Encoding.{json_encoding, json_image}

-- a byte other than `<` stays
pub other_stays : (b : ℕ) (bytes : List ℕ) → (b == less_than) ≡ false → json_encoding (b ∷ bytes) ≡ b ∷ json_encoding bytes
other_stays b bytes other = rw other refl

-- what the first holds, the second holds
abbrev Kept : Option (List ℕ) → Option (List ℕ) → Type 0
Kept first second = (s : List ℕ) → first ≡ Some s → second ≡ Some s

kept_none : (second : Option (List ℕ)) → Kept None second
kept_none second s is = cc

kept_cond : (b : Bool) (x y p q : Option (List ℕ)) → (b ≡ true → Kept x p) → (b ≡ false → Kept y q) → Kept (cond b x y) (cond b p q)
kept_cond true x y p q first second = first refl
kept_cond false x y p q first second = second refl

kept_prepend : (bytes : List ℕ) (first second : Option (List ℕ)) → Kept first second → Kept (prepend bytes first) (prepend bytes second)
kept_prepend bytes None second kept s is = cc
kept_prepend bytes (Some t) second kept s is = ap (prepend bytes) (kept t refl) ∙ is

kept_then : (o : Option ℕ) (f g : ℕ → Option (List ℕ)) → ((c : ℕ) → o ≡ Some c → Kept (f c) (g c)) → Kept (option_and_then f o) (option_and_then g o)
kept_then None f g kept s is = cc
kept_then (Some c) f g kept s is = kept c refl s is

-- what is not there where a test fails
kept_if : (b : Bool) (x second : Option (List ℕ)) → (b ≡ true → Kept x second) → Kept (cond b x None) second
kept_if true x second kept = kept refl
kept_if false x second kept = kept_none second

no_less : (b c : ℕ) → (b == c) ≡ true → (c == less_than) ≡ false → (b == less_than) ≡ false
no_less b c is other = ap (λ x. x == less_than) (eqb-true b c is) ∙ other

digit_other : (b : ℕ) → is_digit b 16 ≡ true → (b == less_than) ≡ false
digit_other b digit = elim (cases_Bool (b == less_than)) [
  | inl same ↦ absurd (false≢true (ap (λ x. is_digit x 16) (sym (eqb-true b less_than same)) ∙ digit))
  | inr other ↦ other
]

-- four hex digits stay
record AreOther (a b c d : ℕ) : Type 0 where
  first : (a == less_than) ≡ false
  second : (b == less_than) ≡ false
  third : (c == less_than) ≡ false
  fourth : (d == less_than) ≡ false

hex_digits : (a b c d : ℕ) → (is_digit a 16 && is_digit b 16 && is_digit c 16 && is_digit d 16) ≡ true → AreOther a b c d
hex_digits a b c d are =
    let three = and_parts (is_digit a 16 && is_digit b 16 && is_digit c 16) (is_digit d 16) are in
    let two = and_parts (is_digit a 16 && is_digit b 16) (is_digit c 16) three.0 in
    let one = and_parts (is_digit a 16) (is_digit b 16) two.0 in
    record { first = digit_other a one.0; second = digit_other b one.1; third = digit_other c two.1; fourth = digit_other d three.1 }

spelled : (a b c d u : ℕ) → code_unit a b c d ≡ Some u → AreOther a b c d
unfolding code_unit
spelled a b c d u is = elim (cases_Bool (is_digit a 16 && is_digit b 16 && is_digit c 16 && is_digit d 16)) [
  | inl are ↦ hex_digits a b c d are
  | inr not ↦ let never : None ≡ Some u = rw not at is in cc
]

four_stay : (a b c d : ℕ) (bytes : List ℕ) → AreOther a b c d → json_encoding (a ∷ b ∷ c ∷ d ∷ bytes) ≡ a ∷ b ∷ c ∷ d ∷ json_encoding bytes
four_stay a b c d bytes are = rw (are.first, are.second, are.third, are.fourth) refl

-- `<` is no character of an escape
no_escaped_less : (bytes s : List ℕ) → content after_backslash (less_than ∷ bytes) ≡ Some s → ⊥
unfolding content short_escape
no_escaped_less bytes s is = cc

-- what its escape is read as
less_read : (bytes : List ℕ) → content plain (json_image less_than ++ bytes) ≡ prepend (less_than ∷ []) (content plain bytes)
unfolding content code_unit encode_utf8
less_read bytes = refl

-- behind `\u`
unit_kept : (a b c d : ℕ) (xs : List ℕ) (unit : Option ℕ) → code_unit a b c d ≡ unit → ((within : Within) → Kept (content within xs) (content within (json_encoding xs)))
    → Kept (content after_u (a ∷ b ∷ c ∷ d ∷ xs)) (content after_u (json_encoding (a ∷ b ∷ c ∷ d ∷ xs)))
unfolding content
unit_kept a b c d xs None none rest = λ s is. let never : None ≡ Some s = rw none at is in cc
unit_kept a b c d xs (Some u) some rest =
    subst (λ bytes. Kept (content after_u (a ∷ b ∷ c ∷ d ∷ xs)) (content after_u bytes)) (sym (four_stay a b c d xs (spelled a b c d u some)))
    (kept_then (code_unit a b c d) _ _ (λ u _. kept_cond (is_high_surrogate u) _ _ _ _ (λ _. rest (after_high u))
    (λ _. kept_cond (is_low_surrogate u) _ _ _ _ (λ _ s is. is) (λ _. kept_prepend (encode_utf8 u) _ _ (rest plain)))))

-- behind a high surrogate
abbrev low_read : ℕ → ℕ → ℕ → ℕ → ℕ → Option (List ℕ) → Option (List ℕ)
low_read h a b c d rest = option_and_then (λ l. cond (is_low_surrogate l) (prepend (encode_utf8 (surrogate_pair h l)) rest) None) (code_unit a b c d)

low_kept : (h a b c d : ℕ) (first second : Option (List ℕ)) → Kept first second → Kept (low_read h a b c d first) (low_read h a b c d second)
low_kept h a b c d first second kept =
    kept_then (code_unit a b c d) _ _ (λ l _. kept_cond (is_low_surrogate l) _ _ _ _ (λ _. kept_prepend (encode_utf8 (surrogate_pair h l)) _ _ kept) (λ _ s is. is))

pair_kept : (h t u a b c d : ℕ) (xs : List ℕ) (unit : Option ℕ) → code_unit a b c d ≡ unit → Kept (content plain xs) (content plain (json_encoding xs))
    → Kept (content (after_high h) (t ∷ u ∷ a ∷ b ∷ c ∷ d ∷ xs)) (content (after_high h) (json_encoding (t ∷ u ∷ a ∷ b ∷ c ∷ d ∷ xs)))
unfolding content
pair_kept h t u a b c d xs None none rest =
    kept_if ((t == ascii.backslash) && (u == ascii.lower_u)) _ _ (λ _ s is. let never : None ≡ Some s = rw none at is in cc)
pair_kept h t u a b c d xs (Some l) some rest =
    let read : Option (List ℕ) = low_read h a b c d (content plain xs) in
    kept_if ((t == ascii.backslash) && (u == ascii.lower_u)) read _ (λ marks.
    let both = and_parts (t == ascii.backslash) (u == ascii.lower_u) marks in
    let first = no_less t ascii.backslash both.0 refl in
    let second = no_less u ascii.lower_u both.1 refl in
    let stay : json_encoding (t ∷ u ∷ a ∷ b ∷ c ∷ d ∷ xs) ≡ t ∷ u ∷ a ∷ b ∷ c ∷ d ∷ json_encoding xs =
    other_stays t (u ∷ a ∷ b ∷ c ∷ d ∷ xs) first ∙ ap (λ y. t ∷ y) (other_stays u (a ∷ b ∷ c ∷ d ∷ xs) second)
    ∙ ap (λ y. t ∷ u ∷ y) (four_stay a b c d xs (spelled a b c d l some)) in
    subst (λ bytes. Kept read (content (after_high h) bytes)) (sym stay)
    (subst (λ test. Kept read (cond test (low_read h a b c d (content plain (json_encoding xs))) None)) (sym marks)
    (low_kept h a b c d _ _ rest)))

pub content_kept : (within : Within) (bytes : List ℕ) → Kept (content within bytes) (content within (json_encoding bytes))
unfolding content
content_kept plain [] = kept_none _
content_kept plain (x ∷ xs) = elim (cases_Bool (x == less_than)) [
  | inl same ↦
      subst (λ b. Kept (content plain (b ∷ xs)) (content plain (json_encoding (b ∷ xs)))) (sym (eqb-true x less_than same))
      (subst (λ o. Kept (content plain (less_than ∷ xs)) o) (sym (less_read (json_encoding xs))) (kept_prepend (less_than ∷ []) _ _ (content_kept plain xs)))
  | inr other ↦
      subst (λ bytes. Kept (content plain (x ∷ xs)) (content plain bytes)) (sym (other_stays x xs other))
      (kept_cond (x == ascii.quote) _ _ _ _ (λ _ s is. is) (λ _. kept_cond (x == ascii.backslash) _ _ _ _ (λ _. content_kept after_backslash xs)
      (λ _. kept_cond (nat_lt x ascii.space) _ _ _ _ (λ _ s is. is) (λ _. kept_prepend (x ∷ []) _ _ (content_kept plain xs)))))
]
content_kept after_backslash [] = kept_none _
content_kept after_backslash (x ∷ xs) = elim (cases_Bool (x == less_than)) [
  | inl same ↦
      subst (λ b. Kept (content after_backslash (b ∷ xs)) (content after_backslash (json_encoding (b ∷ xs)))) (sym (eqb-true x less_than same))
      (λ s is. absurd (no_escaped_less xs s is))
  | inr other ↦
      subst (λ bytes. Kept (content after_backslash (x ∷ xs)) (content after_backslash bytes)) (sym (other_stays x xs other))
      (kept_cond (x == ascii.lower_u) _ _ _ _ (λ _. content_kept after_u xs)
      (λ _. kept_then (short_escape x) _ _ (λ c _. kept_prepend (c ∷ []) _ _ (content_kept plain xs))))
]
content_kept after_u [] = kept_none _
content_kept after_u (a ∷ []) = kept_none _
content_kept after_u (a ∷ b ∷ []) = kept_none _
content_kept after_u (a ∷ b ∷ c ∷ []) = kept_none _
content_kept after_u (a ∷ b ∷ c ∷ d ∷ xs) = unit_kept a b c d xs (code_unit a b c d) refl (λ within. content_kept within xs)
content_kept (after_high h) [] = kept_none _
content_kept (after_high h) (t ∷ []) = kept_none _
content_kept (after_high h) (t ∷ u ∷ []) = kept_none _
content_kept (after_high h) (t ∷ u ∷ a ∷ []) = kept_none _
content_kept (after_high h) (t ∷ u ∷ a ∷ b ∷ []) = kept_none _
content_kept (after_high h) (t ∷ u ∷ a ∷ b ∷ c ∷ []) = kept_none _
content_kept (after_high h) (t ∷ u ∷ a ∷ b ∷ c ∷ d ∷ xs) = pair_kept h t u a b c d xs (code_unit a b c d) refl (content_kept plain xs)
