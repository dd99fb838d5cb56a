-- A reference is read by its body, which goes up to the first `;`, and one by a number by its digits, one pass over them.
use Rattle.std.proofs.Common.{ℕ, zero, suc, ◌≡◌, ◌<◌, ◌≤◌, ◌+◌, Bool, true, false, not, ◌&&◌, List, [], ◌∷◌, ◌++◌, ◌==◌, Option, Some, None, length, take, refl, ap, ◌∙◌, arith, ⊎_elim, add-zero, zero-add, ne_eqb, length-take}
use Rattle.std.specs.Char.{is_digit}
use Rattle.std.specs.List.{list_all, position_from}
use Rattle.std.specs.Option.{option_map}
use Rattle.std.specs.Prelude.{slice_index}
use Rattle.std.specs.Str.Parse.{digits_value}
use Rattle.std.proofs.Math.Seq.{take-append_seam}
use Rattle.std.proofs.lemmas.Bool.{and_parts, cases_Bool, not-true}
use Rattle.std.proofs.lemmas.Bool.Decides.{nat_tests}
use Rattle.hesc_specs.specs.Text.Ascii.{semicolon}
use Rattle.hesc_specs.specs.References.Numbers.{base_of, capped}
use Rattle.hesc_grammars.specs.declared.step.Mode.TheVariants.{Plain}
use Rattle.hesc_grammars.specs.declared.step.Step.TheVariants.{Character, Nothing}
use Rattle.hesc_grammars.specs.References.{reference, are_digits, body_character, character_or_nothing, digits_character, numbered_character}
use Rattle.hesc_grammars.specs.NumberedReferences.{number_of_length, numbered_reference}

-- no byte is a `;`
abbrev pub HasNoSemicolon : List ℕ → Type 0
HasNoSemicolon body = list_all (λ b. not (b == semicolon)) body ≡ true

-- the first `;` stands after a body that has none
position_from-body : (body rest : List ℕ) (start : ℕ) → HasNoSemicolon body →
    position_from (λ b. b == semicolon) start (body ++ semicolon ∷ rest) ≡ Some (start + length body)
position_from-body [] rest start none = rw (add-zero start) refl
position_from-body (b ∷ body) rest start none =
    let parts : (not (b == semicolon) ≡ true) × HasNoSemicolon body =
    and_parts (not (b == semicolon)) (list_all (λ d. not (d == semicolon)) body) none in
    rw (not-true (b == semicolon) parts.0, position_from-body body rest (start + 1) parts.1) (ap Some (omega arith))

-- a body without `;` is read whole
pub reference-body : (body rest : List ℕ) → HasNoSemicolon body →
    reference (body ++ semicolon ∷ rest) ≡ character_or_nothing (length body + 1) (body_character body)
reference-body body rest none =
    rw (position_from-body body rest 0 none, zero-add (length body), take-append_seam body (semicolon ∷ rest)) refl

-- so many bytes are digits of the base
abbrev pub BeginsWithDigits : Bool → ℕ → List ℕ → Type 0
BeginsWithDigits is_hex count bytes = list_all (λ d. is_digit d (base_of is_hex)) (take count bytes) ≡ true

pub and_false : (b : Bool) → (b && false) ≡ false
and_false b = grind (arith, nat_tests)

-- no digit is a `;`
digit_goes_on : (is_hex : Bool) (d : ℕ) → is_digit d (base_of is_hex) ≡ true → (d == semicolon) ≡ false
digit_goes_on is_hex d is = grind (arith, nat_tests)

-- the first `;` counted from a later start
pub position_from-later : (start : ℕ) (bytes : List ℕ) →
    position_from (λ b. b == semicolon) start bytes ≡ option_map (λ n. start + n) (position_from (λ b. b == semicolon) 0 bytes)
position_from-later start [] = refl
position_from-later start (b ∷ bytes) =
    ⊎_elim
    (λ (is : (b == semicolon) ≡ true). rw is (ap Some (omega arith)))
    (λ (other : (b == semicolon) ≡ false). rw (other, position_from-later (start + 1) bytes, position_from-later 1 bytes) (moved (position_from (λ d. d == semicolon) 0 bytes)))
    (cases_Bool (b == semicolon))
  where
    moved : (found : Option ℕ) → option_map (λ n. start + 1 + n) found ≡ option_map (λ n. start + n) (option_map (λ n. 1 + n) found)
    moved found = grind (arith, nat_tests)

-- a `;` right after digits is the first
pub position_from-digits : (is_hex : Bool) (start count : ℕ) (bytes : List ℕ) → BeginsWithDigits is_hex count bytes →
    count < length bytes → (slice_index bytes count == semicolon) ≡ true →
    position_from (λ b. b == semicolon) start bytes ≡ Some (start + count)
position_from-digits is_hex start count [] digits within ends = absurd (omega arith)
position_from-digits is_hex start zero (b ∷ bytes) digits within ends = rw (ends, add-zero start) refl
position_from-digits is_hex start (suc count) (b ∷ bytes) digits within ends =
    let parts = and_parts (is_digit b (base_of is_hex)) (list_all (λ d. is_digit d (base_of is_hex)) (take count bytes)) digits in
    rw (digit_goes_on is_hex b parts.0)
    (position_from-digits is_hex (start + 1) count bytes parts.1 (omega arith) ends ∙ ap Some (omega arith))

-- digits have no `;`
position_from-none : (is_hex : Bool) (start : ℕ) (bytes : List ℕ) → list_all (λ d. is_digit d (base_of is_hex)) bytes ≡ true →
    position_from (λ b. b == semicolon) start bytes ≡ None
position_from-none is_hex start [] digits = refl
position_from-none is_hex start (b ∷ bytes) digits =
    let parts = and_parts (is_digit b (base_of is_hex)) (list_all (λ d. is_digit d (base_of is_hex)) bytes) digits in
    rw (digit_goes_on is_hex b parts.0) (position_from-none is_hex (start + 1) bytes parts.1)

at_least : (start n : ℕ) (bytes : List ℕ) → position_from (λ b. b == semicolon) start bytes ≡ Some n → start ≤ n
at_least start n bytes found = grind (arith, nat_tests, position_from-later)

-- what goes up to a `;` after a byte that is neither a digit nor a `;` has that byte
stops : (is_hex : Bool) (start count n : ℕ) (bytes : List ℕ) → BeginsWithDigits is_hex count bytes → count < length bytes →
    is_digit (slice_index bytes count) (base_of is_hex) ≡ false → (slice_index bytes count == semicolon) ≡ false →
    position_from (λ b. b == semicolon) start bytes ≡ Some (start + n) →
    list_all (λ d. is_digit d (base_of is_hex)) (take n bytes) ≡ false
stops is_hex start count n [] digits within none goes_on found = absurd (omega arith)
stops is_hex start zero zero (b ∷ bytes) digits within none goes_on found =
    let later : position_from (λ d. d == semicolon) (start + 1) bytes ≡ Some (start + 0) = rw goes_on at found in
    absurd (omega (arith, at_least (start + 1) (start + 0) bytes later))
stops is_hex start zero (suc n) (b ∷ bytes) digits within none goes_on found = rw none refl
stops is_hex start (suc count) zero (b ∷ bytes) digits within none goes_on found =
    let parts = and_parts (is_digit b (base_of is_hex)) (list_all (λ d. is_digit d (base_of is_hex)) (take count bytes)) digits in
    let later : position_from (λ d. d == semicolon) (start + 1) bytes ≡ Some (start + 0) = rw (digit_goes_on is_hex b parts.0) at found in
    absurd (omega (arith, at_least (start + 1) (start + 0) bytes later))
stops is_hex start (suc count) (suc n) (b ∷ bytes) digits within none goes_on found =
    let parts = and_parts (is_digit b (base_of is_hex)) (list_all (λ d. is_digit d (base_of is_hex)) (take count bytes)) digits in
    let later : position_from (λ d. d == semicolon) (start + 1) bytes ≡ Some (start + suc n) = rw (digit_goes_on is_hex b parts.0) at found in
    rw parts.0
    (stops is_hex (start + 1) count n bytes parts.1 (omega arith) none goes_on (later ∙ ap Some (omega arith)))

-- digits, and then a byte that is neither a digit nor a `;`
pub numbered_reference-stops : (is_hex : Bool) (marks count : ℕ) (bytes : List ℕ) → BeginsWithDigits is_hex count bytes →
    count < length bytes → is_digit (slice_index bytes count) (base_of is_hex) ≡ false →
    (slice_index bytes count == semicolon) ≡ false →
    numbered_reference (base_of is_hex) marks bytes ≡ Nothing
numbered_reference-stops is_hex marks count bytes digits within none goes_on =
    nothing (position_from (λ b. b == semicolon) 0 bytes) refl
  where
    nothing : (found : Option ℕ) → position_from (λ b. b == semicolon) 0 bytes ≡ found →
        number_of_length (base_of is_hex) marks found bytes ≡ Nothing
    nothing None e = refl
    nothing (Some n) e =
        let none_of : are_digits (base_of is_hex) (take n bytes) ≡ false =
        rw (stops is_hex 0 count n bytes digits within none goes_on (e ∙ ap Some (omega arith))) (and_false (not (length (take n bytes) == 0))) in
        rw none_of refl

-- a `;` with no digit before it
pub numbered_reference-empty : (is_hex : Bool) (marks : ℕ) (bytes : List ℕ) → 0 < length bytes →
    (slice_index bytes 0 == semicolon) ≡ true →
    numbered_reference (base_of is_hex) marks bytes ≡ Nothing
numbered_reference-empty is_hex marks bytes within ends =
    rw (position_from-digits is_hex 0 0 bytes refl within ends) refl

numbered_character-capped : (n : ℕ) → numbered_character (capped n) ≡ numbered_character n
numbered_character-capped n = grind (arith, nat_tests)

-- digits and a `;`
pub numbered_reference-ends : (is_hex : Bool) (marks count : ℕ) (bytes : List ℕ) → BeginsWithDigits is_hex count bytes →
    0 < count → count < length bytes → (slice_index bytes count == semicolon) ≡ true →
    numbered_reference (base_of is_hex) marks bytes
    ≡ character_or_nothing (marks + count + 1) (numbered_character (capped (digits_value (base_of is_hex) (take count bytes))))
numbered_reference-ends is_hex marks count bytes digits some within ends =
    let many : (length (take count bytes) == 0) ≡ false = ne_eqb (length (take count bytes)) 0 (λ e. omega (arith, length-take count bytes)) in
    rw (
      position_from-digits is_hex 0 count bytes digits within ends,
      zero-add count,
      digits,
      many,
      numbered_character-capped (digits_value (base_of is_hex) (take count bytes)),
    ) refl

-- digits alone
pub numbered_reference-unended : (is_hex : Bool) (marks : ℕ) (bytes : List ℕ) →
    list_all (λ d. is_digit d (base_of is_hex)) bytes ≡ true →
    numbered_reference (base_of is_hex) marks bytes ≡ Nothing
numbered_reference-unended is_hex marks bytes digits = rw (position_from-none is_hex 0 bytes digits) refl

-- what has a character is made of digits
digits_only : (digits : List ℕ) (character : ℕ) → digits_character 16 digits ≡ Some character → list_all (λ d. is_digit d 16) digits ≡ true
digits_only digits character is = grind arith

-- the number of a character of one byte, in two digits
pub reference-two_digits : (bytes : List ℕ) (character : ℕ) → 5 ≤ length bytes →
    slice_index bytes 0 ≡ 35 → slice_index bytes 1 ≡ 120 → slice_index bytes 4 ≡ semicolon →
    digits_character 16 (slice_index bytes 2 ∷ slice_index bytes 3 ∷ []) ≡ Some character →
    reference bytes ≡ Character 5 character Plain
reference-two_digits (a ∷ b ∷ high ∷ low ∷ e ∷ rest) character long number hex ends is =
    let digits = digits_only (high ∷ low ∷ []) character is in
    let first = and_parts (is_digit high 16) (is_digit low 16 && true) digits in
    let second = and_parts (is_digit low 16) true first.1 in
    rw (number, hex, ends, digit_goes_on true high first.0, digit_goes_on true low second.0) (rw is refl)
reference-two_digits bytes character long number hex ends is = absurd (omega arith)
