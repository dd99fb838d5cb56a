-- Where an escape of a string ends: within the text, after a byte of ASCII. Its character has no more bytes than it.
use Rattle.std.proofs.Common.{◌≡◌, ℕ, ◌+◌, ◌-◌, ◌≤◌, ◌<◌, Bool, true, false, ◌&&◌, ◌||◌, List, [], ◌∷◌, ◌++◌, ◌==◌, Some, None, length, drop, codes, refl, ap, arith, if◌then◌else◌}
use Rattle.std.specs.Prelude.{encode_utf8, slice_index}
use Rattle.std.specs.Char.{to_ascii_lowercase}
use Rattle.std.specs.Option.{option_or}
use Rattle.std.proofs.lemmas.Bool.{and_parts, eqb-true}
use Rattle.std.proofs.lemmas.Bool.Decides.{nat_tests}
use Rattle.std.proofs.lemmas.Str.{encode_ascii}
use Rattle.hesc_specs.specs.Text.Ascii.{space, slash, backslash, lower_x}
use Rattle.hesc_specs.specs.Text.Elements.{element_name}
use Rattle.hesc_specs.specs.Strings.Encoding.{is_quote}
use Rattle.hesc_specs.specs.Strings.Tokens.{Escape, when, mark_escape, is_upper_hex, is_pair, pair_value, number_escape, separator_escape, ends_name_within, opening_escape, escape}
use Rattle.hesc_specs.specs.Text.Words.{begins, begins_in_any_case}
use Rattle.hesc_specs.specs.declared.elements.Element.{Element}
use Rattle.hesc_specs.specs.declared.elements.Element.TheVariants.{Script, Style}
use Rattle.hesc_specs.specs.declared.quotes.Quotes.{Quotes}
use Rattle.hesc_specs.proofs.Strings.CharacterBytes.{encode-line_separator, encode-paragraph_separator}

-- the bytes of an escape after its `\`: there is one, all of them are there, and the last is of ASCII
pub record EndsWithin (bytes : List ℕ) (more character : ℕ) : Type 0 where
  pub some : 0 < more
  pub within : more ≤ length bytes
  pub ascii : slice_index bytes (more - 1) < 128
  pub short : length (encode_utf8 character) ≤ more + 1

-- so it is of each escape that is found
abbrev Ends : List ℕ → Escape → Type 0
Ends bytes found = (more character : ℕ) → found ≡ Some (more, character) → EndsWithin bytes more character

ends-none : (bytes : List ℕ) → Ends bytes None
ends-none bytes more character is = cc

ends-option_or : (bytes : List ℕ) (one other : Escape) → Ends bytes one → Ends bytes other → Ends bytes (option_or one other)
ends-option_or bytes None other first second = second
ends-option_or bytes (Some e) other first second = first

ends-when : (bytes : List ℕ) (holds : Bool) (more character : ℕ) → (holds ≡ true → EndsWithin bytes more character) → Ends bytes (when holds more character)
ends-when bytes holds more character ends more' character' is = grind (arith, nat_tests)

ascii-short : (c more : ℕ) → c < 128 → length (encode_utf8 c) ≤ more + 1
ascii-short c more small = rw (encode_ascii c small) (omega arith)

quote-ascii : (quotes : Quotes) (c : ℕ) → (c == backslash || is_quote quotes c) ≡ true → c < 128
quote-ascii quotes c is = grind (arith, nat_tests)

ends-mark : (quotes : Quotes) (bytes : List ℕ) → Ends bytes (mark_escape quotes bytes)
ends-mark quotes [] = ends-none []
ends-mark quotes (c ∷ bytes) = ends-when (c ∷ bytes) (c == backslash || is_quote quotes c) 1 c
    (λ is. let small : c < 128 = quote-ascii quotes c is in
    record { some = omega arith; within = omega arith; ascii = small; short = ascii-short c 1 small })

upper_hex-ascii : (b : ℕ) → is_upper_hex b ≡ true → b < 128
upper_hex-ascii b is = grind (arith, nat_tests)

pair-ascii : (least high low : ℕ) → is_pair least high low ≡ true → pair_value high low < 128
pair-ascii least high low is = grind (arith, nat_tests)

ends-number : (element : Element) (bytes : List ℕ) → Ends bytes (number_escape element bytes)
ends-number element [] = ends-none []
ends-number element (a ∷ []) = ends-none (a ∷ [])
ends-number element (a ∷ b ∷ []) = ends-none (a ∷ b ∷ [])
ends-number Script (a ∷ b ∷ c ∷ bytes) = ends-when (a ∷ b ∷ c ∷ bytes) (a == lower_x && is_pair 0 b c) 3 (pair_value b c)
    (λ is. let digits : (is_upper_hex b && is_upper_hex c) ≡ true = grind (arith, nat_tests) in
    record { some = omega arith; within = omega arith; ascii = upper_hex-ascii c (and_parts (is_upper_hex b) (is_upper_hex c) digits).1; short = ascii-short (pair_value b c) 3 (pair-ascii 0 b c (and_parts (a == lower_x) (is_pair 0 b c) is).1) })
ends-number Style (a ∷ b ∷ c ∷ bytes) = ends-when (a ∷ b ∷ c ∷ bytes) (c == space && is_pair 1 a b) 3 (pair_value a b)
    (λ is. let parts = and_parts (c == space) (is_pair 1 a b) is in
    let last : c ≡ space = eqb-true c space parts.0 in
    record { some = omega arith; within = omega arith; ascii = omega arith; short = ascii-short (pair_value a b) 3 (pair-ascii 1 a b parts.1) })

-- bytes that begin with a word are the word and others
begins-splits : (word bytes : List ℕ) → begins word bytes ≡ true → bytes ≡ word ++ drop (length word) bytes
begins-splits [] bytes is = refl
begins-splits (w ∷ word) [] is = cc
begins-splits (w ∷ word) (b ∷ bytes) is =
    let parts = and_parts (b == w) (begins word bytes) is in
    rw (eqb-true b w parts.0) (ap (λ rest. w ∷ rest) (begins-splits word bytes parts.1))

ends-separator : (element : Element) (bytes : List ℕ) → Ends bytes (separator_escape element bytes)
ends-separator element bytes = grind (arith, nat_tests, ends-option_or, ends-when, begins-splits, encode-line_separator, encode-paragraph_separator, ends-none)

lower-slash : (b : ℕ) → (to_ascii_lowercase b == slash) ≡ true → b < 128
lower-slash b is = grind (arith, nat_tests)

first-slash : (word bytes : List ℕ) → begins_in_any_case (slash ∷ word) ends_name_within bytes ≡ true → EndsWithin bytes 1 slash
first-slash word [] is = cc
first-slash word (b ∷ bytes) is =
    let first : b < 128 = lower-slash b (and_parts (to_ascii_lowercase b == slash) (begins_in_any_case word ends_name_within bytes) is).0 in
    record { some = omega arith; within = omega arith; ascii = first; short = ascii-short slash 1 (omega arith) }

ends-opening : (element : Element) (bytes : List ℕ) → Ends bytes (opening_escape element bytes)
ends-opening element bytes = ends-option_or bytes (when (begins (codes "!--") bytes) 1 33) (when (begins_in_any_case (slash ∷ element_name element) ends_name_within bytes) 1 slash)
    (ends-when bytes (begins (codes "!--") bytes) 1 33 (λ is. rw (begins-splits (codes "!--") bytes is) (record { some = omega arith; within = omega arith; ascii = omega arith; short = ascii-short 33 1 (omega arith) })))
    (ends-when bytes (begins_in_any_case (slash ∷ element_name element) ends_name_within bytes) 1 slash (first-slash (element_name element) bytes))

ends-after_less : (element : Element) (after_less : Bool) (bytes : List ℕ) → Ends bytes (if after_less then opening_escape element bytes else None)
ends-after_less element true bytes = ends-opening element bytes
ends-after_less element false bytes = ends-none bytes

pub escape-ends : (element : Element) (quotes : Quotes) (after_less : Bool) (bytes : List ℕ) (more character : ℕ)
    → escape element quotes after_less bytes ≡ Some (more, character) → EndsWithin bytes more character
escape-ends element quotes after_less bytes =
    ends-option_or bytes (mark_escape quotes bytes) (option_or (number_escape element bytes) (option_or (separator_escape element bytes) (if after_less then opening_escape element bytes else None)))
    (ends-mark quotes bytes)
    (ends-option_or bytes (number_escape element bytes) (option_or (separator_escape element bytes) (if after_less then opening_escape element bytes else None))
    (ends-number element bytes)
    (ends-option_or bytes (separator_escape element bytes) (if after_less then opening_escape element bytes else None)
    (ends-separator element bytes) (ends-after_less element after_less bytes)))
