-- A text that fills a slot with which a segment begins names the segment: whatever follows it, the segment reads as neither `.` nor `..`.
use Rattle.std.proofs.Common.{◌≡◌, ◌≢◌, ◌⊎◌, ℕ, zero, ◌<◌, Bool, false, cond, ◌==◌, List, [], ◌∷◌, ◌++◌, length, drop_at, sym, refl, ap, ◌∙◌, inl, inr, append_assoc, length-append, arith}
use Rattle.std.proofs.lemmas.Bool.Decides.{nat_tests}
use Rattle.std.proofs.lemmas.Bool.{cases_Bool, both_ways, cond-true, cond-false, eq-eqb, ne_eqb}
use Rattle.percent_encoding.specs.AsciiSet.{should_percent_encode}
use Rattle.percent_encoding.specs.Percent.{encode_byte, percent_encode, percent_encode_byte}
use Rattle.url.specs.Path.{dot_count, dot_len}
use Rattle.html_urls.specs.declared.component.TheConstants.{COMPONENT}
use Rattle.html_urls.specs.Components.{component}
use Rattle.html_urls.proofs.Paths.SegmentFits.{percent_escaped}

-- a segment that begins with no dot, and one that begins with one
no_dot : (xs : List ℕ) → dot_len xs ≡ 0 → dot_count xs ≡ 0
unfolding dot_count
no_dot xs none = rw none refl

abbrev dots_with : List ℕ → ℕ
dots_with rest = cond (length rest == 0) 1 (cond (dot_len rest == length rest) 2 0)

behind_dot : (dot rest : List ℕ) → dot_len (dot ++ rest) ≡ length dot → 0 < length dot →
    dot_count (dot ++ rest) ≡ dots_with rest
unfolding dot_count
behind_dot dot rest len some = grind (arith, nat_tests, drop_at)

-- what a byte is in a component begins a segment with no dot, or is one, whatever follows it
abbrev BeginsNone : List ℕ → Type 0
BeginsNone unit = (rest : List ℕ) → dot_len (unit ++ rest) ≡ 0

abbrev IsDot : List ℕ → Type 0
IsDot unit = (rest : List ℕ) → dot_len (unit ++ rest) ≡ length unit

escape_dots : (b : ℕ) → BeginsNone (percent_encode_byte b) ⊎ IsDot (percent_encode_byte b)
unfolding percent_encode_byte
escape_dots b = elim (cases_Bool _) [ inl one ↦ inr (λ rest. cond-true _ 3 0 one) | inr none ↦ inl (λ rest. cond-false _ 3 0 none) ]

kept_dots : (b : ℕ) → b ≢ 37 → BeginsNone (b ∷ []) ⊎ IsDot (b ∷ [])
kept_dots b other =
    let no_percent : (b == 37) ≡ false = ne_eqb b 37 other in
    elim (cases_Bool (b == 46)) [ inl one ↦ inr (λ rest. cond-true _ _ _ one) | inr none ↦ inl (λ rest. rw (none, no_percent) refl) ]

byte_dots : (b : ℕ) → BeginsNone (encode_byte COMPONENT b) ⊎ IsDot (encode_byte COMPONENT b)
byte_dots b =
    elim (cases_Bool (should_percent_encode COMPONENT b)) [ inl escaped ↦ rw escaped (escape_dots b) | inr kept ↦ rw kept (kept_dots b (λ same. both_ways _ (rw same at kept) percent_escaped)) ]

byte_some : (b : ℕ) → 0 < length (encode_byte COMPONENT b)
unfolding percent_encode_byte
byte_some b = elim (cases_Bool (should_percent_encode COMPONENT b)) [ inl escaped ↦ rw escaped (omega arith) | inr kept ↦ rw kept (omega arith) ]

first_byte : (b : ℕ) (text : List ℕ) → component (b ∷ text) ≡ encode_byte COMPONENT b ++ component text
unfolding percent_encode
first_byte b text = refl

-- behind a dot, a component that is not empty is no second one alone
behind_first : (text more : List ℕ) → 0 < length text → (dot_len (component text) == length (component text)) ≡ false → (dot_len (component text ++ more) == length (component text ++ more)) ≡ false
behind_first [] more some other = absurd (omega arith)
behind_first (b ∷ text) more some other =
    let unit = encode_byte COMPONENT b in
    let whole : component (b ∷ text) ++ more ≡ unit ++ (component text ++ more) = ap (λ c. c ++ more) (first_byte b text) ∙ append_assoc unit (component text) more in
    let len_whole = ap length whole in
    let len_first = ap length (first_byte b text) in
    elim (byte_dots b) [
      | inl none ↦ let none_there : dot_len (component (b ∷ text) ++ more) ≡ 0 = ap dot_len whole ∙ none (component text ++ more) in
          ne_eqb _ _ (λ same. omega (arith, length-append unit (component text ++ more), byte_some b))
      | inr is ↦ let here : dot_len (component (b ∷ text)) ≡ length unit = ap dot_len (first_byte b text) ∙ is (component text) in
          let there : dot_len (component (b ∷ text) ++ more) ≡ length unit = ap dot_len whole ∙ is (component text ++ more) in
          let longer : dot_len (component (b ∷ text)) ≢ length (component (b ∷ text)) = λ same. both_ways _ other (eq-eqb _ _ same) in
          ne_eqb _ _ (λ same. longer (omega (arith, length-append unit (component text ++ more), length-append unit (component text), length-append (component text) more)))
    ]

component_some : (b : ℕ) (text : List ℕ) → 0 < length (component (b ∷ text))
component_some b text = rw (first_byte b text, length-append (encode_byte COMPONENT b) (component text)) (omega (arith, byte_some b))

no_second : (is_dot : Bool) → zero ≡ cond is_dot 2 0 → is_dot ≡ false
no_second is_dot here = grind (arith, nat_tests)

nothing_counts : (text : List ℕ) → text ≡ [] → zero ≡ dots_with (component text) → ⊥
unfolding percent_encode
nothing_counts text none here = let clash : zero ≡ 1 = rw none at here in omega arith

pub text_names : (text more : List ℕ) → 0 < length text → dot_count (component text) ≡ 0 → dot_count (component text ++ more) ≡ 0
text_names [] more some none = absurd (omega arith)
text_names (b ∷ text) more some none =
    let unit = encode_byte COMPONENT b in
    let whole : component (b ∷ text) ++ more ≡ unit ++ (component text ++ more) = ap (λ c. c ++ more) (first_byte b text) ∙ append_assoc unit (component text) more in
    ap dot_count whole
    ∙ elim (byte_dots b) [
      | inl other ↦ no_dot (unit ++ (component text ++ more)) (other (component text ++ more))
      | inr is ↦ let same : zero ≡ dot_count (component (b ∷ text)) = sym none in
          let here = same ∙ ap dot_count (first_byte b text) ∙ behind_dot unit (component text) (is (component text)) (byte_some b) in
          behind_dot unit (component text ++ more) (is (component text ++ more)) (byte_some b) ∙ rest_is text here
    ]
  where
    rest_is : (text : List ℕ) → zero ≡ dots_with (component text) → dots_with (component text ++ more) ≡ 0
    rest_is [] here = absurd (nothing_counts [] refl here)
    rest_is (d ∷ text) here =
        let some : (length (component (d ∷ text)) == 0) ≡ false = ne_eqb _ 0 (λ none. omega (arith, component_some d text)) in
        let more_some : (length (component (d ∷ text) ++ more) == 0) ≡ false = ne_eqb _ 0 (λ none. omega (arith, component_some d text, length-append (component (d ∷ text)) more)) in
        let other : (dot_len (component (d ∷ text)) == length (component (d ∷ text))) ≡ false = no_second _ (rw some at here) in
        rw (more_some, behind_first (d ∷ text) more (omega arith) other) refl
