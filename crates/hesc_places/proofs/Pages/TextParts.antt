-- Each place and each word in a text ends where a character does.
use Rattle.std.proofs.Common.{ℕ, zero, suc, ◌≡◌, ◌<◌, ◌+◌, ◌==◌, Bool, true, false, List, [], ◌∷◌, Option, Some, None, IsUtf8, length, take, drop, encode_utf8, refl, subst, ⊎_elim, arith}
use Rattle.std.specs.Prelude.{nat_lt, slice_index}
use Rattle.std.specs.Char.{is_ascii_lowercase}
use Rattle.std.specs.List.{list_all, prefix_len}
use Rattle.std.proofs.lemmas.Bool.{and_parts, cases_Bool, eqb-true, ltb-true}
use Rattle.std.proofs.lemmas.Bool.Decides.{nat_tests}
use Rattle.std.proofs.lemmas.Str.{IsCharBoundary-after_ascii, IsCharBoundary-before_ascii, IsUtf8-drop, IsUtf8-take}
use Rattle.hesc_specs.specs.Text.Words.{begins}
use Rattle.hesc_grammars.specs.declared.place.Place.{Place}
use Rattle.hesc_grammars.specs.declared.step.Mode.{Mode}
use Rattle.hesc_grammars.specs.declared.step.Step.{Step}
use Rattle.hesc_grammars.specs.declared.step.Step.TheVariants.{Close, Byte, Character, Nothing}
use Rattle.hesc_grammars.specs.Places.{reading, first_mode, step_of}
use Rattle.hesc_grammars.specs.Reading.{after, reading_after, taken}
use Rattle.hesc_grammars.specs.Words.{is_white_space}
use Rattle.hesc_grammars.proofs.TextItems.{IsTextItem, item_of_text}
use Rattle.hesc_places.specs.Pages.Parsers.{past, past_while, some_while}
use Rattle.hesc_places.proofs.Pages.GoodReadings.{some_read}

-- ---- a place

pub record EndsInAscii (bytes : List ℕ) (end : ℕ) : Type 0 where
  pub within : end < length bytes
  pub ascii : slice_index bytes end < 128

one_more : (b : ℕ) (bytes : List ℕ) (n : ℕ) → slice_index (b ∷ bytes) (1 + n) ≡ slice_index bytes n
one_more b bytes n = let e : 1 + n ≡ suc n = omega arith in rw e refl

one_later : (b : ℕ) (bytes value : List ℕ) (rest : Option (List ℕ × ℕ)) (found : List ℕ × ℕ) → after value 1 rest ≡ Some found →
    ((last : List ℕ × ℕ) → rest ≡ Some last → EndsInAscii bytes last.1) → EndsInAscii (b ∷ bytes) found.1
one_later b bytes value None found told ends = absurd (cc)
one_later b bytes value (Some last) found told ends =
    let here = ends last refl in
    let same : 1 + last.1 ≡ found.1 = cc in
    subst (EndsInAscii (b ∷ bytes)) same (record { within = omega (arith, here.within); ascii = rw (one_more b bytes last.1) here.ascii })

at_item : (place : Place) (b : ℕ) (bytes : List ℕ) (item : Step) (found : List ℕ × ℕ) → IsTextItem item (b ∷ bytes) →
    taken item (λ more next. reading_after (step_of place) more next bytes) ≡ Some found →
    ((more : ℕ) (next : Mode) (last : List ℕ × ℕ) → reading_after (step_of place) more next bytes ≡ Some last → EndsInAscii bytes last.1) → EndsInAscii (b ∷ bytes) found.1
at_item place b bytes Close found item told ends =
    let same : 0 ≡ found.1 = cc in
    subst (EndsInAscii (b ∷ bytes)) same (record { within = omega arith; ascii = item })
at_item place b bytes (Byte more value next) found item told ends =
    one_later b bytes (value ∷ []) (reading_after (step_of place) more next bytes) found told (ends more next)
at_item place b bytes (Character more value next) found item told ends =
    one_later b bytes (encode_utf8 value) (reading_after (step_of place) more next bytes) found told (ends more next)
at_item place b bytes Nothing found item told ends = absurd (cc)

ends_in_ascii : (place : Place) (mode : Mode) (more : ℕ) (bytes : List ℕ) (found : List ℕ × ℕ) → reading_after (step_of place) more mode bytes ≡ Some found →
    EndsInAscii bytes found.1
ends_in_ascii place mode more [] found told = absurd (cc)
ends_in_ascii place mode (suc more) (b ∷ bytes) found told =
    one_later b bytes [] (reading_after (step_of place) more mode bytes) found told (λ last is. ends_in_ascii place mode more bytes last is)
ends_in_ascii place mode zero (b ∷ bytes) found told =
    at_item place b bytes (step_of place mode (b ∷ bytes)) found (item_of_text place mode (b ∷ bytes) (λ none. let one : suc (length bytes) ≡ 0 = none in omega (arith, one))) told
    (λ more next last is. ends_in_ascii place next more bytes last is)

pub place_ends : (place : Place) (bytes : List ℕ) (found : List ℕ × ℕ) → reading place bytes ≡ Some found → EndsInAscii bytes found.1
place_ends place bytes found told = ends_in_ascii place (first_mode place) 0 bytes found told

pub text_from : (bytes : List ℕ) (end : ℕ) → EndsInAscii bytes end → IsUtf8 bytes → IsUtf8 (drop end bytes)
text_from bytes end ends utf8 = IsUtf8-drop bytes end utf8 (IsCharBoundary-before_ascii bytes end ends.within ends.ascii)

pub text_up_to : (bytes : List ℕ) (end : ℕ) → EndsInAscii bytes end → IsUtf8 bytes → IsUtf8 (take end bytes)
text_up_to bytes end ends utf8 = IsUtf8-take bytes end utf8 (IsCharBoundary-before_ascii bytes end ends.within ends.ascii)

pub text_behind : (bytes : List ℕ) (end : ℕ) → EndsInAscii bytes end → IsUtf8 bytes → IsUtf8 (drop (end + 1) bytes)
text_behind bytes end ends utf8 = IsUtf8-drop bytes (end + 1) utf8 (IsCharBoundary-after_ascii bytes end utf8 ends.within ends.ascii)

-- ---- words

abbrev pub is_ascii : ℕ → Bool
is_ascii b = nat_lt b 128

pub behind_byte : (b : ℕ) (bytes : List ℕ) → b < 128 → IsUtf8 (b ∷ bytes) → IsUtf8 bytes
behind_byte b bytes small utf8 = text_behind (b ∷ bytes) 0 (record { within = omega arith; ascii = small }) utf8

behind_word : (word bytes : List ℕ) → list_all is_ascii word ≡ true → begins word bytes ≡ true → IsUtf8 bytes → IsUtf8 (drop (length word) bytes)
behind_word [] bytes ascii stands utf8 = utf8
behind_word (w ∷ word) [] ascii stands utf8 = absurd (cc)
behind_word (w ∷ word) (b ∷ bytes) ascii stands utf8 =
    let words = and_parts (is_ascii w) (list_all is_ascii word) ascii in
    let same = and_parts (b == w) (begins word bytes) stands in
    let is : b ≡ w = eqb-true b w same.0 in
    let small : b < 128 = rw is (ltb-true w 128 words.0) in
    behind_word word bytes words.1 same.1 (behind_byte b bytes small utf8)

pub past_text : (word bytes rest : List ℕ) → list_all is_ascii word ≡ true → past word bytes ≡ Some rest → IsUtf8 bytes → IsUtf8 rest
past_text word bytes rest ascii told utf8 =
    ⊎_elim
    (λ (stands : begins word bytes ≡ true).
    let same : drop (length word) bytes ≡ rest = cc (rw stands at told) in
    subst IsUtf8 same (behind_word word bytes ascii stands utf8))
    (λ (other : begins word bytes ≡ false).
    let none : None ≡ Some rest = rw other at told in
    absurd (cc))
    (cases_Bool (begins word bytes))

pub past_while_text : (passes : ℕ → Bool) (bytes : List ℕ) → ((b : ℕ) → passes b ≡ true → b < 128) → IsUtf8 bytes → IsUtf8 (past_while passes bytes)
past_while_text passes [] ascii utf8 = utf8
past_while_text passes (b ∷ bytes) ascii utf8 =
    ⊎_elim
    (λ (is : passes b ≡ true).
    let more : prefix_len passes (b ∷ bytes) ≡ suc (prefix_len passes bytes) = rw is (omega arith) in
    rw more (past_while_text passes bytes ascii (behind_byte b bytes (ascii b is) utf8)))
    (λ (other : passes b ≡ false). rw other utf8)
    (cases_Bool (passes b))

pub letters_are_ascii : (b : ℕ) → is_ascii_lowercase b ≡ true → b < 128
letters_are_ascii b is = grind (arith, nat_tests, is)

pub white_space_is_ascii : (b : ℕ) → is_white_space b ≡ true → b < 128
white_space_is_ascii b is = grind (arith, nat_tests, is)

pub some_while_text : (passes : ℕ → Bool) (bytes : List ℕ) (found : List ℕ × List ℕ) → ((b : ℕ) → passes b ≡ true → b < 128) → some_while passes bytes ≡ Some found →
    IsUtf8 bytes → IsUtf8 found.1
some_while_text passes bytes found ascii told utf8 =
    let same : (take (prefix_len passes bytes) bytes, past_while passes bytes) ≡ found =
    some_read (prefix_len passes bytes) (take (prefix_len passes bytes) bytes, past_while passes bytes) found told in
    subst (λ (x : List ℕ × List ℕ). IsUtf8 x.1) same (past_while_text passes bytes ascii utf8)
