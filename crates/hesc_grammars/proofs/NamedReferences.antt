-- A reference is read by its first byte and what goes on from there.
use Rattle.std.proofs.Common.{codes, ℕ, suc, ◌⊎◌, drop, ◌<◌, ◌≤◌, ◌||◌, zero-add, ◌≡◌, ◌+◌, Bool, true, false, not, ◌&&◌, List, [], ◌∷◌, ◌++◌, ◌==◌, Option, Some, None, if◌then◌else◌, length, take, refl, ap, ◌∙◌, arith, ⊎_elim}
use Rattle.std.specs.List.{list_all, position_from, starts_with}
use Rattle.std.specs.Option.{option_map}
use Rattle.std.specs.Prelude.{bytes_eq, nat_eq, slice_index}
use Rattle.std.proofs.lemmas.Bool.{and_parts, cases_Bool}
use Rattle.std.proofs.lemmas.Bool.Decides.{nat_tests}
use Rattle.hesc_specs.specs.Text.Ascii.{ampersand, semicolon, less_than, greater_than, double_quote, single_quote}
use Rattle.hesc_specs.specs.Text.Words.{begins}
use Rattle.hesc_grammars.specs.declared.step.Mode.TheVariants.{Plain}
use Rattle.hesc_grammars.specs.declared.step.Step.{Step}
use Rattle.hesc_grammars.specs.declared.step.Step.TheVariants.{Character, Nothing}
use Rattle.hesc_grammars.specs.NumberedReferences.{number_of_length, numbered_reference}
use Rattle.hesc_grammars.specs.References.{reference, reference_of_length, body_character, character_or_nothing, no_break_space}
use Rattle.hesc_grammars.proofs.ReferenceBodies.{HasNoSemicolon, position_from-later}

-- the first `;`
abbrev pub end_of : List ℕ → Option ℕ
end_of bytes = position_from (λ b. b == semicolon) 0 bytes

-- what a `&`, a byte of a body and more bytes begin, by the character of the body's rest
abbrev pub rest_step : (List ℕ → Option ℕ) → Option ℕ → List ℕ → Step
rest_step character None bytes = Nothing
rest_step character (Some count) bytes = character_or_nothing (count + 2) (character (take count bytes))

pub reference-first : (first : ℕ) (bytes : List ℕ) → (first == semicolon) ≡ false →
    reference (first ∷ bytes) ≡ rest_step (λ x. body_character (first ∷ x)) (end_of bytes) bytes
reference-first first bytes goes_on = rw (goes_on, position_from-later 1 bytes) (same (end_of bytes))
  where
    same : (found : Option ℕ) →
        reference_of_length (option_map (λ n. 1 + n) found) (first ∷ bytes) ≡ rest_step (λ x. body_character (first ∷ x)) found bytes
    same None = refl
    same (Some n) =
        let one : 1 + n ≡ suc n = omega arith in
        let two : suc n + 1 ≡ n + 2 = omega arith in
        rw (one, two) refl

-- the bytes begin with the word and a `;` where the word goes up to the first `;`
abbrev is_body : List ℕ → Option ℕ → List ℕ → Bool
is_body word None bytes = false
is_body word (Some count) bytes = bytes_eq (take count bytes) word

not_both : (b w : ℕ) → (b == semicolon) ≡ true → not (w == semicolon) ≡ true → (b == w) ≡ false
not_both b w ends goes_on = grind (arith, nat_tests)

begins-body : (word bytes : List ℕ) → HasNoSemicolon word →
    begins (word ++ semicolon ∷ []) bytes ≡ is_body word (end_of bytes) bytes
begins-body [] [] none = refl
begins-body [] (b ∷ bytes) none =
    ⊎_elim
    (λ (ends : (b == semicolon) ≡ true). rw ends refl)
    (λ (other : (b == semicolon) ≡ false). rw (other, position_from-later 1 bytes) (longer (end_of bytes)))
    (cases_Bool (b == semicolon))
  where
    longer : (found : Option ℕ) → false ≡ is_body [] (option_map (λ n. 1 + n) found) (b ∷ bytes)
    longer found = grind (arith, nat_tests)
begins-body (w ∷ word) [] none = refl
begins-body (w ∷ word) (b ∷ bytes) none =
    let parts : (not (w == semicolon) ≡ true) × HasNoSemicolon word =
    and_parts (not (w == semicolon)) (list_all (λ d. not (d == semicolon)) word) none in
    ⊎_elim
    (λ (ends : (b == semicolon) ≡ true). rw (not_both b w ends parts.0, ends) refl)
    (λ (other : (b == semicolon) ≡ false).
    rw (other, position_from-later 1 bytes, begins-body word bytes parts.1) (longer (end_of bytes)))
    (cases_Bool (b == semicolon))
  where
    longer : (found : Option ℕ) → (b == w && is_body word found bytes) ≡ is_body (w ∷ word) (option_map (λ n. 1 + n) found) (b ∷ bytes)
    longer found = grind (arith, nat_tests)

-- where it does, the first `;` is right after the word
position_from-begins : (start : ℕ) (word bytes : List ℕ) → HasNoSemicolon word → begins (word ++ semicolon ∷ []) bytes ≡ true →
    position_from (λ b. b == semicolon) start bytes ≡ Some (start + length word)
position_from-begins start [] [] none is = cc
position_from-begins start [] (b ∷ bytes) none is =
    let parts = and_parts (b == semicolon) true is in
    rw parts.0 (ap Some (omega arith))
position_from-begins start (w ∷ word) [] none is = cc
position_from-begins start (w ∷ word) (b ∷ bytes) none is =
    let parts = and_parts (b == w) (begins (word ++ semicolon ∷ []) bytes) is in
    let nones : (not (w == semicolon) ≡ true) × HasNoSemicolon word =
    and_parts (not (w == semicolon)) (list_all (λ d. not (d == semicolon)) word) none in
    rw (same b w parts.0 nones.0)
    (position_from-begins (start + 1) word bytes nones.1 parts.1 ∙ ap Some (omega arith))
  where
    same : (b w : ℕ) → (b == w) ≡ true → not (w == semicolon) ≡ true → (b == semicolon) ≡ false
    same b w is goes_on = grind (arith, nat_tests)

-- a name's rest has the name's character
pub rest_step-name : (word : List ℕ) (character : ℕ) (other : List ℕ → Option ℕ) (bytes : List ℕ) → HasNoSemicolon word →
    rest_step (λ x. if bytes_eq x word then Some character else other x) (end_of bytes) bytes
    ≡ if begins (word ++ semicolon ∷ []) bytes then Character (length word + 2) character Plain
    else rest_step other (end_of bytes) bytes
rest_step-name word character other bytes none = grind (arith, nat_tests, position_from-begins, begins-body, zero-add)

pub rest_step-none : (found : Option ℕ) (bytes : List ℕ) → rest_step (λ x. None) found bytes ≡ Nothing
rest_step-none found bytes = grind (arith, nat_tests)

pub has_first : (bytes : List ℕ) → 0 < slice_index bytes 0 → 1 ≤ length bytes
has_first [] positive = absurd (omega arith)
has_first (b ∷ bytes) positive = omega arith

-- a number is read by its digits
pub reference-decimal : (bytes : List ℕ) → (slice_index bytes 0 ≡ 120 → ⊥) → (slice_index bytes 0 ≡ 88 → ⊥) →
    reference (35 ∷ bytes) ≡ numbered_reference 10 1 bytes
reference-decimal bytes small large = reference-first 35 bytes refl ∙ same (end_of bytes)
  where
    cut : (mark n : ℕ) (bytes : List ℕ) → (slice_index bytes 0 ≡ mark → ⊥) → begins (mark ∷ []) (take n bytes) ≡ false
    cut mark n bytes other = grind (arith, nat_tests)

    same : (found : Option ℕ) → rest_step (λ x. body_character (35 ∷ x)) found bytes ≡ number_of_length 10 1 found bytes
    same None = refl
    same (Some n) =
        let two : 1 + n + 1 ≡ n + 2 = omega arith in
        rw (cut 120 n bytes small, cut 88 n bytes large, two) refl

pub reference-hex : (bytes : List ℕ) → 1 ≤ length bytes → (slice_index bytes 0 ≡ 120) ⊎ (slice_index bytes 0 ≡ 88) →
    reference (35 ∷ bytes) ≡ numbered_reference 16 2 (drop 1 bytes)
reference-hex [] some is = absurd (omega arith)
reference-hex (mark ∷ digits) some is =
    ⊎_elim
    (λ (small : mark ≡ 120). rw small (marked 120 refl refl))
    (λ (large : mark ≡ 88). rw large (marked 88 refl refl))
    is
  where
    marked : (m : ℕ) → (m == semicolon) ≡ false → (m == 120 || m == 88) ≡ true →
        reference (35 ∷ m ∷ digits) ≡ numbered_reference 16 2 digits
    marked m goes_on is_mark = reference-first 35 (m ∷ digits) refl ∙ rw (goes_on, position_from-later 1 digits) (same (end_of digits))
      where
        same : (found : Option ℕ) → rest_step (λ x. body_character (35 ∷ x)) (option_map (λ n. 1 + n) found) (m ∷ digits) ≡ number_of_length 16 2 found digits
        same None = refl
        same (Some n) =
            let one : 1 + n ≡ suc n = omega arith in
            let two : 2 + n + 1 ≡ suc n + 2 = omega arith in
            let is_hex : (m == 120 && true || m == 88 && true) ≡ true = grind (arith, nat_tests) in
            rw (one, two) (rw is_hex refl)

-- what `starts_with` answers
pub begins_is : (word bytes : List ℕ) → starts_with nat_eq bytes word ≡ begins word bytes
begins_is [] bytes = refl
begins_is (w ∷ word) [] = refl
begins_is (w ∷ word) (b ∷ bytes) = let back : nat_eq w b ≡ nat_eq b w = grind (arith, nat_tests) in rw (back, begins_is word bytes) refl

-- the names
pub reference-less_than : (bytes : List ℕ) →
    reference (108 ∷ bytes) ≡ if begins (codes "t;") bytes then Character 3 less_than Plain else Nothing
reference-less_than bytes =
    reference-first 108 bytes refl
    ∙ rest_step-name (codes "t") less_than (λ x. None) bytes refl
    ∙ rw (rest_step-none (end_of bytes) bytes) refl

pub reference-greater_than : (bytes : List ℕ) →
    reference (103 ∷ bytes) ≡ if begins (codes "t;") bytes then Character 3 greater_than Plain else Nothing
reference-greater_than bytes =
    reference-first 103 bytes refl
    ∙ rest_step-name (codes "t") greater_than (λ x. None) bytes refl
    ∙ rw (rest_step-none (end_of bytes) bytes) refl

pub reference-ampersand : (bytes : List ℕ) →
    reference (97 ∷ bytes) ≡ if begins (codes "mp;") bytes then Character 4 ampersand Plain
    else (if begins (codes "pos;") bytes then Character 5 single_quote Plain else Nothing)
reference-ampersand bytes =
    reference-first 97 bytes refl
    ∙ rest_step-name (codes "mp") ampersand (λ x. if bytes_eq x (codes "pos") then Some single_quote else None) bytes refl
    ∙ rw (rest_step-name (codes "pos") single_quote (λ x. None) bytes refl, rest_step-none (end_of bytes) bytes) refl

pub reference-double_quote : (bytes : List ℕ) →
    reference (113 ∷ bytes) ≡ if begins (codes "uot;") bytes then Character 5 double_quote Plain else Nothing
reference-double_quote bytes =
    reference-first 113 bytes refl
    ∙ rest_step-name (codes "uot") double_quote (λ x. None) bytes refl
    ∙ rw (rest_step-none (end_of bytes) bytes) refl

pub reference-no_break_space : (bytes : List ℕ) →
    reference (110 ∷ bytes) ≡ if begins (codes "bsp;") bytes then Character 5 no_break_space Plain else Nothing
reference-no_break_space bytes =
    reference-first 110 bytes refl
    ∙ rest_step-name (codes "bsp") no_break_space (λ x. None) bytes refl
    ∙ rw (rest_step-none (end_of bytes) bytes) refl

-- no other byte begins a body that has a character
pub reference-other : (first : ℕ) (bytes : List ℕ) →
    (first == 35) ≡ false → (first == 97) ≡ false → (first == 103) ≡ false →
    (first == 108) ≡ false → (first == 110) ≡ false → (first == 113) ≡ false →
    reference (first ∷ bytes) ≡ Nothing
reference-other first bytes number a g l n q = grind (arith, nat_tests, reference-first)
