-- What is read in a place of a text is a text, where the place's steps read characters that are scalar values.
use Rattle.std.proofs.Common.{ℕ, zero, suc, ◌≡◌, ◌≢◌, ◌<◌, ◌≤◌, ◌+◌, ◌^◌, ◌==◌, ◌&&◌, ◌||◌, Bool, true, false, if◌then◌else◌, List, [], ◌∷◌, ◌++◌, Option, Some, None, IsUtf8, bytes_eq, codes, length, take, drop, encode_utf8, refl, ap, ◌∙◌, ⊎_elim, arith, append-nil, append_assoc}
use Rattle.std.specs.Char.{IsScalar, is_digit}
use Rattle.std.specs.Int.{is_in_range}
use Rattle.std.specs.Prelude.{⊤}
use Rattle.std.specs.List.{list_all, position_from}
use Rattle.std.specs.Str.Parse.{AllDigits, digits_value}
use Rattle.std.proofs.lemmas.Bool.{and_parts, cases_Bool, eqb-true, ltb-true}
use Rattle.std.proofs.lemmas.Bool.Decides.{nat_tests}
use Rattle.std.proofs.lemmas.Int.Digits.{digits_value-lt}
use Rattle.std.proofs.lemmas.List.{length-drop}
use Rattle.std.proofs.lemmas.Str.{IsUtf8-encode}
use Rattle.hesc_specs.specs.Text.Ascii.{ampersand, backslash, carriage_return, double_quote, form_feed, line_feed, lower_x, semicolon, single_quote, tab}
use Rattle.hesc_specs.specs.Text.Words.{begins}
use Rattle.hesc_grammars.specs.declared.place.End.{End}
use Rattle.hesc_grammars.specs.declared.place.Place.{Place}
use Rattle.hesc_grammars.specs.declared.place.Place.TheVariants.{DoubleAttribute, SingleAttribute, UnquotedAttribute, ScriptSingle}
use Rattle.hesc_grammars.specs.declared.step.Mode.{Mode}
use Rattle.hesc_grammars.specs.declared.step.Mode.TheVariants.{Plain}
use Rattle.hesc_grammars.specs.declared.step.Step.{Step}
use Rattle.hesc_grammars.specs.declared.step.Step.TheVariants.{Close, Byte, Character, Nothing}
use Rattle.hesc_grammars.specs.Html.{ends_unquoted, has_item, is_unquoted_error, marked_step, unquoted_step}
use Rattle.hesc_grammars.specs.Places.{end_byte, first_mode, reading, step_of}
use Rattle.hesc_grammars.specs.Reading.{after, reading_after, taken}
use Rattle.hesc_grammars.specs.References.{are_digits, body_character, character_or_nothing, digits_character, named_character, numbered_character, reference, reference_of_length}
use Rattle.hesc_grammars.specs.ScriptStrings.{backspace, begins_line_end, hex_escape, line_tabulation, lower_b, lower_f, lower_n, lower_r, lower_t, lower_u, lower_v, script_escape, script_string_step, single_escape, single_or_hex, unless_surrogate}
use Rattle.hesc_grammars.proofs.ReadTexts.{ReadsText, begun, ended, takes_byte, takes_character}
use Rattle.hesc_grammars.proofs.TextItems.{IsTextItem, item_of_text}

-- ---- the characters of steps are scalar values

abbrev AreScalar : Option ℕ → Type 0
AreScalar None = ⊤
AreScalar (Some c) = IsScalar c

abbrev IsReadable : Step → Type 0
IsReadable (Character more c next) = IsScalar c
IsReadable other = ⊤

one_of : (test : Bool) (first second : Option ℕ) → AreScalar first → AreScalar second → AreScalar (if test then first else second)
one_of true first second here there = here
one_of false first second here there = there

one_step : (test : Bool) (first second : Step) → IsReadable first → IsReadable second → IsReadable (if test then first else second)
one_step true first second here there = here
one_step false first second here there = there

in_ranges : (n : ℕ) (test : Bool) → (is_in_range 0x1 0x7F n || is_in_range 0xA0 0xD7FF n || is_in_range 0xE000 0x10FFFF n) ≡ test → AreScalar (if test then Some n else None)
in_ranges n true is = grind (arith, nat_tests, is)
in_ranges n false is = tt

numbered_scalar : (n : ℕ) → AreScalar (numbered_character n)
numbered_scalar n =
    one_of (n == 0) _ _ refl (in_ranges n (is_in_range 0x1 0x7F n || is_in_range 0xA0 0xD7FF n || is_in_range 0xE000 0x10FFFF n) refl)

digits_scalar : (base : ℕ) (digits : List ℕ) → AreScalar (digits_character base digits)
digits_scalar base digits = one_of (are_digits base digits) _ _ (numbered_scalar (digits_value base digits)) tt

named_scalar : (name : List ℕ) → AreScalar (named_character name)
named_scalar name =
    one_of (bytes_eq name (codes "amp")) _ _ refl
    (one_of (bytes_eq name (codes "apos")) _ _ refl
    (one_of (bytes_eq name (codes "gt")) _ _ refl
    (one_of (bytes_eq name (codes "lt")) _ _ refl
    (one_of (bytes_eq name (codes "nbsp")) _ _ refl
    (one_of (bytes_eq name (codes "quot")) _ _ refl tt)))))

body_scalar : (body : List ℕ) → AreScalar (body_character body)
body_scalar body =
    one_of (begins (codes "#x") body || begins (codes "#X") body) _ _ (digits_scalar 16 (drop 2 body))
    (one_of (begins (codes "#") body) _ _ (digits_scalar 10 (drop 1 body)) (named_scalar body))

character_readable : (more : ℕ) (c : Option ℕ) → AreScalar c → IsReadable (character_or_nothing more c)
character_readable more None scalar = tt
character_readable more (Some c) scalar = scalar

length_readable : (count : Option ℕ) (bytes : List ℕ) → IsReadable (reference_of_length count bytes)
length_readable None bytes = tt
length_readable (Some count) bytes = character_readable (count + 1) (body_character (take count bytes)) (body_scalar (take count bytes))

reference_readable : (bytes : List ℕ) → IsReadable (reference bytes)
reference_readable bytes = length_readable (position_from (λ b. b == semicolon) 0 bytes) bytes

single_scalar : (b : ℕ) (test : Bool) → (b == single_quote || b == double_quote || b == backslash) ≡ test → (others : Option ℕ) → AreScalar others →
    AreScalar (if test then Some b else others)
single_scalar b true is others scalar = grind (arith, nat_tests, is)
single_scalar b false is others scalar = scalar

escape_scalar : (b : ℕ) → AreScalar (single_escape b)
escape_scalar b =
    single_scalar b (b == single_quote || b == double_quote || b == backslash) refl _
    (one_of (b == lower_b) (Some backspace) _ refl
    (one_of (b == lower_f) (Some form_feed) _ refl
    (one_of (b == lower_n) (Some line_feed) _ refl
    (one_of (b == lower_r) (Some carriage_return) _ refl
    (one_of (b == lower_t) (Some tab) _ refl
    (one_of (b == lower_v) (Some line_tabulation) None refl tt))))))

all_digits : (digits : List ℕ) → list_all (λ d. is_digit d 16) digits ≡ true → AllDigits 16 digits
all_digits [] all = tt
all_digits (d ∷ digits) all =
    let parts = and_parts (is_digit d 16) (list_all (λ d. is_digit d 16) digits) all in
    (ltb-true _ 16 parts.0, all_digits digits parts.1)

surrogate_readable : (more n : ℕ) → n < 65536 → IsReadable (unless_surrogate more n)
surrogate_readable more n small =
    ⊎_elim
    (λ (surrogate : is_in_range 0xD800 0xDFFF n ≡ true). rw surrogate tt)
    (λ (other : is_in_range 0xD800 0xDFFF n ≡ false). rw other (grind (arith, nat_tests, other, small)))
    (cases_Bool (is_in_range 0xD800 0xDFFF n))

hex_readable : (count : ℕ) (digits : List ℕ) → 16 ^ count ≤ 65536 → IsReadable (hex_escape count digits)
hex_readable count digits few =
    ⊎_elim
    (λ (is : (length digits == count && list_all (λ d. is_digit d 16) digits) ≡ true).
    let parts = and_parts (length digits == count) (list_all (λ d. is_digit d 16) digits) is in
    let value = digits_value-lt 16 digits (all_digits digits parts.1) in
    let long : length digits ≡ count = eqb-true (length digits) count parts.0 in
    rw is (surrogate_readable (count + 1) (digits_value 16 digits) (let below : digits_value 16 digits < 16 ^ count = rw long at value in omega (arith, below, few))))
    (λ (none : (length digits == count && list_all (λ d. is_digit d 16) digits) ≡ false). rw none tt)
    (cases_Bool (length digits == count && list_all (λ d. is_digit d 16) digits))

single_readable : (found : Option ℕ) (b : ℕ) (bytes : List ℕ) → AreScalar found → IsReadable (single_or_hex found b bytes)
single_readable (Some c) b bytes scalar = scalar
single_readable None b bytes scalar =
    one_step (b == lower_x) _ _ (hex_readable 2 (take 2 bytes) (omega arith)) (one_step (b == lower_u) _ Nothing (hex_readable 4 (take 4 bytes) (omega arith)) tt)

script_readable : (bytes : List ℕ) → IsReadable (script_escape bytes)
script_readable [] = tt
script_readable (b ∷ bytes) = single_readable (single_escape b) b bytes (escape_scalar b)

abbrev pub HasScalars : Place → Type 0
HasScalars place = (mode : Mode) (bytes : List ℕ) → IsReadable (step_of place mode bytes)

marked_readable : (mark : ℕ) (mode : Mode) (bytes : List ℕ) → IsReadable (marked_step mark mode bytes)
unfolding marked_step
marked_readable mark mode [] = tt
marked_readable mark mode (b ∷ bytes) = one_step (b == mark) Close _ tt (one_step (b == ampersand) _ (Byte 0 b Plain) (reference_readable bytes) tt)

unquoted_readable : (end : ℕ) (mode : Mode) (bytes : List ℕ) → IsReadable (unquoted_step end mode bytes)
unfolding unquoted_step
unquoted_readable end mode [] = tt
unquoted_readable end mode (b ∷ bytes) =
    one_step (ends_unquoted b) _ _ (one_step (b == end && has_item mode) Close Nothing tt tt)
    (one_step (b == ampersand) _ _ (reference_readable bytes) (one_step (is_unquoted_error b) Nothing (Byte 0 b Plain) tt tt))

string_readable : (mark : ℕ) (mode : Mode) (bytes : List ℕ) → IsReadable (script_string_step mark mode bytes)
unfolding script_string_step
string_readable mark mode [] = tt
string_readable mark mode (b ∷ bytes) =
    one_step (b == mark) Close _ tt (one_step (b == backslash) _ _ (script_readable bytes) (one_step (begins_line_end (b ∷ bytes)) Nothing (Byte 0 b Plain) tt tt))

pub double_scalars : HasScalars DoubleAttribute
double_scalars mode bytes = marked_readable double_quote mode bytes

pub single_scalars : HasScalars SingleAttribute
single_scalars mode bytes = marked_readable single_quote mode bytes

pub unquoted_scalars : (end : End) → HasScalars (UnquotedAttribute end)
unquoted_scalars end mode bytes = unquoted_readable (end_byte end) mode bytes

pub string_scalars : HasScalars ScriptSingle
string_scalars mode bytes = string_readable single_quote mode bytes

-- ---- what they read of a text is a text

-- a byte and so many more are read as the value, and then the rest is
record IsPassed (step : Mode → List ℕ → Step) (mode : Mode) (more : ℕ) (bytes value found : List ℕ) : Type 0 where
  within : more ≤ length bytes
  last : List ℕ × ℕ
  is : reading_after step 0 mode (drop more bytes) ≡ Some last
  whole : found ≡ value ++ last.0

behind_value : (value : List ℕ) (count : ℕ) (rest : Option (List ℕ × ℕ)) (found : List ℕ × ℕ) → after value count rest ≡ Some found →
    (last : List ℕ × ℕ) × ((rest ≡ Some last) × (found.0 ≡ value ++ last.0))
behind_value value count None found told = absurd (cc)
behind_value value count (Some last) found told = (last, (refl, cc))

passed_over : (step : Mode → List ℕ → Step) (mode : Mode) (more : ℕ) (bytes value : List ℕ) (last : List ℕ × ℕ) → reading_after step more mode bytes ≡ Some last →
    IsPassed step mode more bytes value (value ++ last.0)
passed_over step mode zero bytes value last is = record { within = omega arith; last = last; is = is; whole = refl }
passed_over step mode (suc more) [] value last is = absurd (cc)
passed_over step mode (suc more) (b ∷ bytes) value last is =
    let behind = behind_value [] 1 (reading_after step more mode bytes) last is in
    let later = passed_over step mode more bytes value behind.0 behind.1.0 in
    record { within = omega (arith, later.within); last = later.last; is = later.is; whole = ap (λ x. value ++ x) behind.1.1 ∙ later.whole }

-- by what an item leaves
abbrev ReadsOn : Place → ℕ → Type 0
ReadsOn place most = (mode : Mode) (front rest : List ℕ) (found : List ℕ × ℕ) → length rest ≤ most → ReadsText front rest →
    reading_after (step_of place) 0 mode rest ≡ Some found → IsUtf8 (front ++ found.0)

item_read : (place : Place) (most : ℕ) (front : List ℕ) (b : ℕ) (bytes : List ℕ) (item : Step) (found : List ℕ × ℕ) → ReadsOn place most → length bytes ≤ most →
    ReadsText front (b ∷ bytes) → IsTextItem item (b ∷ bytes) → IsReadable item → taken item (λ more next. reading_after (step_of place) more next bytes) ≡ Some found →
    IsUtf8 (front ++ found.0)
item_read place most front b bytes Close found goes_on few reads item scalar told =
    let none : [] ≡ found.0 = cc in
    rw (← none, append-nil front) (ended front (b ∷ bytes) item reads)
item_read place most front b bytes (Byte more value next) found goes_on few reads item scalar told =
    let behind = behind_value (value ∷ []) 1 (reading_after (step_of place) more next bytes) found told in
    let passed = passed_over (step_of place) next more bytes (value ∷ []) behind.0 behind.1.0 in
    let dropped : drop more bytes ≡ drop (more + 1) (b ∷ bytes) = let e : more + 1 ≡ suc more = omega arith in rw e refl in
    let one : ReadsText (front ++ value ∷ []) (drop more bytes) =
    takes_byte front (b ∷ bytes) (front ++ value ∷ []) (drop more bytes) more value next (omega (arith, passed.within)) item reads refl dropped in
    rw (behind.1.1, passed.whole, ← append_assoc front (value ∷ []) passed.last.0)
    (goes_on next (front ++ value ∷ []) (drop more bytes) passed.last (omega (arith, length-drop more bytes, few)) one passed.is)
item_read place most front b bytes (Character more value next) found goes_on few reads item scalar told =
    let text : List ℕ = encode_utf8 value in
    let behind = behind_value text 1 (reading_after (step_of place) more next bytes) found told in
    let passed = passed_over (step_of place) next more bytes text behind.0 behind.1.0 in
    let dropped : drop more bytes ≡ drop (more + 1) (b ∷ bytes) = let e : more + 1 ≡ suc more = omega arith in rw e refl in
    let one : ReadsText (front ++ text) (drop more bytes) =
    takes_character front (b ∷ bytes) (front ++ text) (drop more bytes) more value next (IsUtf8-encode value scalar) (omega (arith, passed.within)) item reads refl dropped in
    rw (behind.1.1, passed.whole, ← append_assoc front text passed.last.0)
    (goes_on next (front ++ text) (drop more bytes) passed.last (omega (arith, length-drop more bytes, few)) one passed.is)
item_read place most front b bytes Nothing found goes_on few reads item scalar told = absurd (cc)

text_read : (place : Place) → HasScalars place → (most : ℕ) → ReadsOn place most
text_read place scalars zero mode front [] found few reads told = absurd (cc)
text_read place scalars zero mode front (b ∷ bytes) found few reads told = absurd (omega (arith, few))
text_read place scalars (suc most) mode front [] found few reads told = absurd (cc)
text_read place scalars (suc most) mode front (b ∷ bytes) found few reads told =
    let full : length (b ∷ bytes) ≢ 0 = λ none. let one : suc (length bytes) ≡ 0 = none in omega (arith, one) in
    item_read place most front b bytes (step_of place mode (b ∷ bytes)) found (text_read place scalars most) (omega (arith, few)) reads
    (item_of_text place mode (b ∷ bytes) full) (scalars mode (b ∷ bytes)) told

pub place_text : (place : Place) → HasScalars place → (bytes : List ℕ) (found : List ℕ × ℕ) → IsUtf8 bytes → reading place bytes ≡ Some found → IsUtf8 found.0
place_text place scalars bytes found utf8 told =
    text_read place scalars (length bytes) (first_mode place) [] bytes found (omega arith) (begun bytes utf8) told
