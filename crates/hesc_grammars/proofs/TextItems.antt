-- What a grammar takes of a text: an item begins at a byte of ASCII and ends after one, or is one byte.
use Rattle.std.proofs.Common.{ℕ, zero, suc, ◌≡◌, ◌≢◌, ◌≤◌, ◌<◌, ◌+◌, ◌-◌, ◌⊎◌, inl, inr, Bool, true, false, ◌&&◌, ◌==◌, List, [], ◌∷◌, Option, Some, None, length, take, refl, arith}
use Rattle.std.proofs.lemmas.Bool.{and_parts, cases_Bool, cases_lt}
use Rattle.std.proofs.lemmas.Bool.Decides.{nat_tests}
use Rattle.std.specs.Char.{is_digit}
use Rattle.std.specs.Str.Parse.{digits_value}
use Rattle.std.proofs.lemmas.List.Sums.{take_while-cons}
use Rattle.std.specs.List.{position_from, take_while}
use Rattle.std.specs.Prelude.{⊤, if◌then◌else◌, drop, slice_index}
use Rattle.hesc_specs.specs.Text.Ascii.{ampersand, semicolon, backslash, lower_x}
use Rattle.hesc_grammars.specs.declared.step.Mode.{Mode}
use Rattle.hesc_grammars.specs.declared.step.Mode.TheVariants.{Plain}
use Rattle.hesc_grammars.specs.declared.place.Place.{Place}
use Rattle.hesc_grammars.specs.Places.{step_of}
use Rattle.hesc_grammars.specs.declared.step.Step.{Step}
use Rattle.hesc_grammars.specs.declared.step.Step.TheVariants.{Close, Byte, Character, Nothing}
use Rattle.hesc_grammars.specs.Bodies.{script_body_step, style_body_step}
use Rattle.hesc_grammars.specs.Html.{ends_unquoted, marked_step, unquoted_step}
use Rattle.hesc_grammars.specs.References.{character_or_nothing, body_character, reference, reference_of_length}
use Rattle.hesc_grammars.specs.ScriptStrings.{lower_u, single_escape, unless_surrogate, hex_escape, single_or_hex, script_escape, begins_line_end, script_string_step}
use Rattle.hesc_grammars.specs.StyleStrings.{is_newline_or_nul, begins_white_space, white_space_length, digits_escape, style_escape, style_string_step}

-- the mark is ASCII; an item of a byte is that byte as it stands, or a byte of ASCII and the one after it; that of a character begins and ends with ASCII
abbrev pub IsTextItem : Step → List ℕ → Type 0
IsTextItem Close bytes = slice_index bytes 0 < 128
IsTextItem (Byte more v next) bytes =
    ((more ≡ 0) × (v ≡ slice_index bytes 0)) ⊎ ((more ≡ 1) × (slice_index bytes 0 < 128) × (v ≡ slice_index bytes 1))
IsTextItem (Character more c next) bytes = (slice_index bytes 0 < 128) × (slice_index bytes more < 128)
IsTextItem Nothing bytes = ⊤

character_item : (more : ℕ) (c : Option ℕ) (bytes : List ℕ) → slice_index bytes 0 < 128 → slice_index bytes more < 128 → IsTextItem (character_or_nothing more c) bytes
character_item more c bytes first last = grind (arith, nat_tests)

one_more : (b : ℕ) (bytes : List ℕ) (n : ℕ) → slice_index (b ∷ bytes) (n + 1) ≡ slice_index bytes n
one_more b bytes n = let e : n + 1 ≡ suc n = omega arith in rw e refl

-- at the place that was found stands what was looked for
stands : (test : ℕ → Bool) (bytes : List ℕ) (i n : ℕ) → position_from test i bytes ≡ Some n → (i ≤ n) × (test (slice_index bytes (n - i)) ≡ true)
stands test [] i n is = absurd (cc)
stands test (b ∷ bytes) i n is =
    elim (cases_Bool (test b)) [
      | inl passes ↦
          let here : Some i ≡ Some n = rw passes at is in
          let same : i ≡ n = cc in
          let none : n - i ≡ 0 = omega arith in
          (omega arith, rw none passes)
      | inr other ↦
          let later = stands test bytes (i + 1) n (rw other at is) in
          let one : n - i ≡ (n - (i + 1)) + 1 = omega (arith, later.0) in
          (omega (arith, later.0), rw (one, one_more b bytes (n - (i + 1))) later.1)
    ]

equal : (a b : ℕ) → (a == b) ≡ true → a ≡ b
equal a b same = grind (arith, nat_tests)

reference_item_of : (bytes : List ℕ) (found : Option ℕ) → position_from (λ b. b == semicolon) 0 bytes ≡ found → IsTextItem (reference_of_length found bytes) (ampersand ∷ bytes)
reference_item_of bytes None is = tt
reference_item_of bytes (Some n) is =
    let none : n - 0 ≡ n = omega arith in
    let last : slice_index bytes n ≡ semicolon = equal (slice_index bytes n) semicolon (rw none at (stands (λ b. b == semicolon) bytes 0 n is).1) in
    character_item (n + 1) (body_character (take n bytes)) (ampersand ∷ bytes) (omega arith) (rw (one_more ampersand bytes n, last) (omega arith))

reference_item : (bytes : List ℕ) → IsTextItem (reference bytes) (ampersand ∷ bytes)
reference_item bytes = reference_item_of bytes (position_from (λ b. b == semicolon) 0 bytes) refl

pub marked_item : (mark : ℕ) (mode : Mode) (b : ℕ) (bytes : List ℕ) → mark < 128 → IsTextItem (marked_step mark mode (b ∷ bytes)) (b ∷ bytes)
unfolding marked_step
marked_item mark mode b bytes ascii = grind (arith, nat_tests, equal, reference_item)

ends_unquoted_ascii : (b : ℕ) → ends_unquoted b ≡ true → b < 128
ends_unquoted_ascii b ends = grind (arith, nat_tests)

pub unquoted_item : (end : ℕ) (mode : Mode) (b : ℕ) (bytes : List ℕ) → IsTextItem (unquoted_step end mode (b ∷ bytes)) (b ∷ bytes)
unfolding unquoted_step
unquoted_item end mode b bytes = grind (arith, nat_tests, ends_unquoted_ascii, equal, reference_item)

digit_ascii : (d : ℕ) → is_digit d 16 ≡ true → d < 128
digit_ascii d is = grind (arith, nat_tests)

hex_item : (are : Bool) (more n : ℕ) (bytes : List ℕ) → slice_index bytes 0 < 128 → (are ≡ true → slice_index bytes more < 128)
    → IsTextItem (if are then unless_surrogate more n else Nothing) bytes
hex_item are more n bytes first last = grind (arith, nat_tests)

two_digits_item : (b : ℕ) (bytes : List ℕ) → IsTextItem (hex_escape 2 (take 2 bytes)) (backslash ∷ b ∷ bytes)
two_digits_item b bytes = grind (arith, nat_tests)

four_digits_item : (b : ℕ) (bytes : List ℕ) → IsTextItem (hex_escape 4 (take 4 bytes)) (backslash ∷ b ∷ bytes)
four_digits_item b [] = tt
four_digits_item b (d ∷ []) = tt
four_digits_item b (d ∷ e ∷ []) = tt
four_digits_item b (d ∷ e ∷ f ∷ []) = tt
four_digits_item b (d ∷ e ∷ f ∷ g ∷ bytes) =
    hex_item (is_digit d 16 && (is_digit e 16 && (is_digit f 16 && (is_digit g 16 && true)))) 5 (digits_value 16 (d ∷ e ∷ f ∷ g ∷ [])) (backslash ∷ b ∷ d ∷ e ∷ f ∷ g ∷ bytes) (omega arith)
    (λ are.
    let later = (and_parts (is_digit d 16) (is_digit e 16 && (is_digit f 16 && (is_digit g 16 && true))) are).1 in
    let last = (and_parts (is_digit e 16) (is_digit f 16 && (is_digit g 16 && true)) later).1 in
    digit_ascii g ((and_parts (is_digit g 16) true ((and_parts (is_digit f 16) (is_digit g 16 && true) last).1)).0))

high_single : (b : ℕ) → 128 ≤ b → single_escape b ≡ None
high_single b high = grind (arith, nat_tests)

single_or_hex_item : (found : Option ℕ) (b : ℕ) (bytes : List ℕ) → ((c : ℕ) → found ≡ Some c → b < 128) → IsTextItem (single_or_hex found b bytes) (backslash ∷ b ∷ bytes)
single_or_hex_item (Some c) b bytes small = (omega arith, small c refl)
single_or_hex_item None b bytes small =
    elim (cases_Bool (b == lower_x)) [
      | inl two ↦ rw two (two_digits_item b bytes)
      | inr other ↦ rw other (elim (cases_Bool (b == lower_u)) [
        | inl four ↦ rw four (four_digits_item b bytes)
        | inr neither ↦ rw neither tt
      ])
    ]

script_escape_item : (bytes : List ℕ) → IsTextItem (script_escape bytes) (backslash ∷ bytes)
script_escape_item bytes = grind (arith, nat_tests, single_or_hex_item, cases_lt, high_single)

pub script_string_item : (mark : ℕ) (mode : Mode) (b : ℕ) (bytes : List ℕ) → mark < 128 → IsTextItem (script_string_step mark mode (b ∷ bytes)) (b ∷ bytes)
unfolding script_string_step
script_string_item mark mode b bytes ascii =
    elim (cases_Bool (b == mark)) [
      | inl is ↦ rw is (let same : b ≡ mark = equal b mark is in omega arith)
      | inr other ↦ rw other (elim (cases_Bool (b == backslash)) [
        | inl is ↦ rw is (let same : b ≡ backslash = equal b backslash is in rw same (script_escape_item bytes))
        | inr plain ↦ rw plain (elim (cases_Bool (begins_line_end (b ∷ bytes))) [
          | inl line_end ↦ rw line_end tt
          | inr item ↦ rw item (inl (refl, refl))
        ])
      ])
    ]

digit_after : (b : ℕ) (bytes more : List ℕ) (k : ℕ) → ((j : ℕ) → j < length more → is_digit (slice_index bytes j) 16 ≡ true) → is_digit b 16 ≡ true
    → k < length (b ∷ more) → is_digit (slice_index (b ∷ bytes) k) 16 ≡ true
digit_after b bytes more k later first within = grind (arith, nat_tests)

-- the digits at the front are digits
digit_at : (bytes : List ℕ) (most k : ℕ) → k < length (take_while (λ d. is_digit d 16) (take most bytes)) → is_digit (slice_index bytes k) 16 ≡ true
digit_at bytes zero k within = absurd (omega arith)
digit_at [] (suc most) k within = absurd (omega arith)
digit_at (b ∷ bytes) (suc most) k within =
    elim (cases_Bool (is_digit b 16)) [
      | inl is ↦ digit_after b bytes (take_while (λ d. is_digit d 16) (take most bytes)) k (digit_at bytes most) is (rw (take_while-cons (λ d. is_digit d 16) b (take most bytes), is) at within)
      | inr other ↦ absurd (let none = rw (take_while-cons (λ d. is_digit d 16) b (take most bytes), other) at within in omega arith)
    ]

white_space_ascii : (bytes : List ℕ) (n : ℕ) → begins_white_space (drop n bytes) ≡ true → slice_index bytes n < 128
white_space_ascii [] n begins = omega arith
white_space_ascii (b ∷ bytes) zero begins = grind (arith, nat_tests)
white_space_ascii (b ∷ bytes) (suc n) begins = white_space_ascii bytes n begins

style_body_item : (mode : Mode) (b : ℕ) (bytes : List ℕ) → IsTextItem (style_body_step mode (b ∷ bytes)) (b ∷ bytes)
unfolding style_body_step
style_body_item mode b bytes = grind (arith, nat_tests)

script_body_item : (mode : Mode) (b : ℕ) (bytes : List ℕ) → IsTextItem (script_body_step mode (b ∷ bytes)) (b ∷ bytes)
unfolding script_body_step
script_body_item mode b bytes = grind (arith, nat_tests)

-- the last byte of digits, or of the white space after them
escape_end : (count : ℕ) (bytes : List ℕ) → 0 < count → is_digit (slice_index bytes (count - 1)) 16 ≡ true
    → slice_index (backslash ∷ bytes) (count + white_space_length (drop count bytes)) < 128
escape_end count bytes some last = grind (arith, nat_tests, one_more, white_space_ascii, digit_ascii)

some_digits : (b : ℕ) (bytes : List ℕ) → is_digit b 16 ≡ true → 0 < length (take_while (λ d. is_digit d 16) (b ∷ bytes))
some_digits b bytes is = rw (take_while-cons (λ d. is_digit d 16) b bytes, is) (omega arith)

digits_escape_item : (b : ℕ) (bytes : List ℕ) → is_digit b 16 ≡ true
    → IsTextItem (digits_escape (take_while (λ d. is_digit d 16) (take 6 (b ∷ bytes))) (b ∷ bytes)) (backslash ∷ b ∷ bytes)
digits_escape_item b bytes is =
    let digits = take_while (λ d. is_digit d 16) (take 6 (b ∷ bytes)) in
    let some : 0 < length digits = some_digits b (take 5 bytes) is in
    (omega arith, escape_end (length digits) (b ∷ bytes) some (digit_at (b ∷ bytes) 6 (length digits - 1) (omega (arith, some))))

style_escape_choice : (hex : Bool) (b : ℕ) (bytes : List ℕ) → is_digit b 16 ≡ hex
    → IsTextItem (if hex then digits_escape (take_while (λ d. is_digit d 16) (take 6 (b ∷ bytes))) (b ∷ bytes) else (if is_newline_or_nul b then Nothing else Byte 1 b Plain)) (backslash ∷ b ∷ bytes)
style_escape_choice true b bytes is = digits_escape_item b bytes is
style_escape_choice false b bytes is =
    elim (cases_Bool (is_newline_or_nul b)) [
      | inl nothing ↦ rw nothing tt
      | inr item ↦ rw item (inr (refl, omega arith, refl))
    ]

style_escape_item : (bytes : List ℕ) → IsTextItem (style_escape bytes) (backslash ∷ bytes)
style_escape_item [] = tt
style_escape_item (b ∷ bytes) = style_escape_choice (is_digit b 16) b bytes refl

style_string_item : (mark : ℕ) (mode : Mode) (b : ℕ) (bytes : List ℕ) → mark < 128 → IsTextItem (style_string_step mark mode (b ∷ bytes)) (b ∷ bytes)
unfolding style_string_step
style_string_item mark mode b bytes ascii = grind (arith, nat_tests, equal, style_escape_item)

text_item : (place : Place) (mode : Mode) (b : ℕ) (bytes : List ℕ) → IsTextItem (step_of place mode (b ∷ bytes)) (b ∷ bytes)
text_item place mode b bytes = grind (arith, nat_tests, marked_item, unquoted_item, script_string_item, style_string_item, script_body_item, style_body_item)

pub item_of_text : (place : Place) (mode : Mode) (rest : List ℕ) → length rest ≢ 0 → IsTextItem (step_of place mode rest) rest
item_of_text place mode [] some = absurd (some refl)
item_of_text place mode (b ∷ bytes) some = text_item place mode b bytes
