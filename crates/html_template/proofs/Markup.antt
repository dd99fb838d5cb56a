-- The markup of a URL: what stands after the last byte that passes a test, and what markup adds to the URL.
use Rattle.std.proofs.Common.{ℕ, zero, suc, ◌≡◌, ◌≢◌, ◌<◌, ◌≤◌, ◌+◌, ◌-◌, ◌==◌, ◌&&◌, ◌||◌, Bool, true, false, List, [], ◌∷◌, ◌++◌, Option, Some, None, length, take, drop, slice_index, bytes_eq, codes, refl, sym, ap, ◌∙◌, append_assoc, append-nil, length-append, arith, inl, inr}
use Rattle.std.proofs.Math.Seq.{drop-append-add, take-append-add}
use Rattle.std.proofs.lemmas.Bool.{cases_Bool, eqb-true, ne_eqb}
use Rattle.std.proofs.lemmas.Bool.Decides.{nat_tests}
use Rattle.std.proofs.lemmas.List.{take_rest}
use Rattle.std.specs.Char.{is_ascii_alphanumeric}
use Rattle.std.specs.List.{list_any}
use Rattle.std.specs.Option.{option_map}
use Rattle.hesc_specs.specs.Text.Ascii.{ampersand, number_sign, semicolon}
use Rattle.html_tokenizer.specs.Tokenizer.Values.References.{goes_on}
use Rattle.html_tokenizer.specs.UrlValues.{after_last, url_text, url_text_from}
use Rattle.html_template.specs.OpenUrls.UrlTexts.{IsRead, Takes}

-- ---- after the last byte that passes

any_at : (test : ℕ → Bool) (bytes : List ℕ) (n : ℕ) → n < length bytes → test (slice_index bytes n) ≡ true → list_any test bytes ≡ true
any_at test [] n within passes = absurd (omega arith)
any_at test (b ∷ bytes) zero within passes = rw passes refl
any_at test (b ∷ bytes) (suc n) within passes =
    let later : list_any test bytes ≡ true = any_at test bytes n (omega arith) passes in
    elim (cases_Bool (test b)) [ inl first ↦ rw first refl | inr other ↦ rw (other, later) refl ]

last_passes : (test : ℕ → Bool) (bytes : List ℕ) (n : ℕ) → n < length bytes → test (slice_index bytes n) ≡ true →
    list_any test (drop (suc n) bytes) ≡ false → after_last test bytes ≡ Some (drop (suc n) bytes)
last_passes test [] n within passes none = absurd (omega arith)
last_passes test (b ∷ bytes) zero within passes none = rw (none, passes) refl
last_passes test (b ∷ bytes) (suc n) within passes none =
    let later : list_any test bytes ≡ true = any_at test bytes n (omega arith) passes in
    rw later (last_passes test bytes n (omega arith) passes none)

none_before : (test : ℕ → Bool) (bytes : List ℕ) (n : ℕ) → n < length bytes → test (slice_index bytes n) ≡ false →
    list_any test (drop (suc n) bytes) ≡ false → list_any test (drop n bytes) ≡ false
none_before test [] n within fails none = absurd (omega arith)
none_before test (b ∷ bytes) zero within fails none = rw fails none
none_before test (b ∷ bytes) (suc n) within fails none = none_before test bytes n (omega arith) fails none

none_passes : (test : ℕ → Bool) (bytes : List ℕ) → list_any test bytes ≡ false → after_last test bytes ≡ None
none_passes test [] none = refl
none_passes test (b ∷ bytes) none =
    elim (cases_Bool (test b)) [ inl passes ↦ let clash : true ≡ false = rw passes at none in absurd (cc) | inr fails ↦ let later : list_any test bytes ≡ false = rw fails at none in rw (later, fails) refl ]

-- going back from the end: no byte behind the last one passes
pub none_at_end : (test : ℕ → Bool) (bytes : List ℕ) → list_any test (drop (length bytes) bytes) ≡ false
none_at_end test [] = refl
none_at_end test (b ∷ bytes) = none_at_end test bytes

-- nor one more
pub none_one_before : (test : ℕ → Bool) (bytes : List ℕ) (start : ℕ) → 0 < start → start ≤ length bytes →
    test (slice_index bytes (start - 1)) ≡ false → list_any test (drop start bytes) ≡ false → list_any test (drop (start - 1) bytes) ≡ false
none_one_before test bytes start some within fails none = grind (arith, nat_tests, none_before)

-- or it is the last that passes
pub last_before : (test : ℕ → Bool) (bytes : List ℕ) (start : ℕ) → 0 < start → start ≤ length bytes →
    test (slice_index bytes (start - 1)) ≡ true → list_any test (drop start bytes) ≡ false →
    Some (take (length bytes - start) (drop start bytes)) ≡ after_last test bytes
last_before test bytes start some within passes none = grind (arith, nat_tests, last_passes, take_rest)

-- or none does
pub none_at_all : (test : ℕ → Bool) (bytes : List ℕ) (start : ℕ) → start ≡ 0 → list_any test (drop start bytes) ≡ false → None ≡ after_last test bytes
none_at_all test bytes start is none = sym (none_passes test bytes (rw is at none))

-- ---- what markup adds to a URL

same_text : (read : Option (List ℕ)) → read ≡ option_map (λ more. more) read
same_text read = grind (arith, nat_tests)

-- before the first byte
pub nothing_read : (is_ended : Bool) (text markup : List ℕ) → text ≡ [] → IsRead is_ended None text markup markup
nothing_read is_ended text markup none = rw none (same_text (url_text is_ended markup))

map_twice : (front middle : List ℕ) (read : Option (List ℕ)) →
    option_map (λ more. front ++ more) (option_map (λ more. middle ++ more) read) ≡ option_map (λ more. (front ++ middle) ++ more) read
map_twice front middle None = refl
map_twice front middle (Some text) = ap Some (sym (append_assoc front middle text))

-- a byte that stands as it is
byte_kept : (is_ended : Bool) (text rest markup : List ℕ) (b : ℕ) → IsRead is_ended None text (b ∷ rest) markup → (b == ampersand) ≡ false →
    IsRead is_ended None (text ++ b ∷ []) rest markup
byte_kept is_ended text rest markup b read other = (rw other at read) ∙ map_twice text (b ∷ []) (url_text_from is_ended None rest)

-- a `&`
ampersand_held : (is_ended : Bool) (text rest markup : List ℕ) (b : ℕ) → IsRead is_ended None text (b ∷ rest) markup → (b == ampersand) ≡ true →
    IsRead is_ended (Some (length text)) (text ++ b ∷ []) rest markup
ampersand_held is_ended text rest markup b read is = grind (arith, nat_tests)

-- a letter or digit behind it
letter_held : (is_ended : Bool) (text rest markup : List ℕ) (b start : ℕ) → IsRead is_ended (Some start) text (b ∷ rest) markup → is_ascii_alphanumeric b ≡ true →
    IsRead is_ended (Some start) (text ++ b ∷ []) rest markup
letter_held is_ended text rest markup b start (word, held) letter = (
  word ++ b ∷ [],
  record {
    front = held.front;
    parts = ap (λ x. x ++ b ∷ []) held.parts ∙ append_assoc held.front (ampersand ∷ word) (b ∷ []);
    place = held.place;
    read = rw letter at held.read;
  },
)

map_name : (front word : List ℕ) (b : ℕ) (read : Option (List ℕ)) →
    option_map (λ more. front ++ more) (option_map (λ more. ampersand ∷ word ++ b ∷ more) read)
    ≡ option_map (λ more. ((front ++ ampersand ∷ word) ++ b ∷ []) ++ more) read
map_name front word b None = refl
map_name front word b (Some text) =
    ap Some
    (sym (append_assoc (front ++ ampersand ∷ word) (b ∷ []) text ∙ append_assoc front (ampersand ∷ word) (b ∷ text)))

-- where the word stands in the text
held_word : (front word text : List ℕ) (start : ℕ) → text ≡ front ++ ampersand ∷ word → start ≡ length front → drop (start + 1) text ≡ word
held_word front word text start parts place = rw (parts, place) (drop-append-add front (ampersand ∷ word) 1)

held_front : (front word text : List ℕ) (start : ℕ) → text ≡ front ++ ampersand ∷ word → start ≡ length front →
    take (start + 1) text ≡ front ++ ampersand ∷ []
held_front front word text start parts place = rw (parts, place) (take-append-add front (ampersand ∷ word) 1)

held_length : (front word text : List ℕ) (start : ℕ) → text ≡ front ++ ampersand ∷ word → start ≡ length front → length text ≡ start + 1 + length word
held_length front word text start parts place = rw (parts, place) (omega (arith, length-append front (ampersand ∷ word)))

-- a byte that goes on with no reference and ends none: the `&` and the word stand for themselves
no_number : (word : List ℕ) (b : ℕ) → is_ascii_alphanumeric b ≡ false → b ≢ semicolon → (b ≡ number_sign → length word ≢ 0) → (b == semicolon || goes_on word b) ≡ false
no_number word b letter no_end no_sign = grind (arith, nat_tests)

no_amp : (word : List ℕ) (b : ℕ) → b ≢ semicolon → (b == semicolon && bytes_eq word (codes "amp")) ≡ false
no_amp word b no_end = rw (ne_eqb b semicolon no_end) refl

stands_read : (is_ended : Bool) (text rest markup : List ℕ) (b start : ℕ) → IsRead is_ended (Some start) text (b ∷ rest) markup → is_ascii_alphanumeric b ≡ false →
    b ≢ semicolon → (b ≡ number_sign → start + 1 ≢ length text) → (b == ampersand) ≡ false → IsRead is_ended None (text ++ b ∷ []) rest markup
stands_read is_ended text rest markup b start (word, held) letter no_end no_sign other =
    let len = held_length held.front word text start held.parts held.place in
    let stands = no_number word b letter no_end (λ sign none. no_sign sign (omega arith)) in
    let read = rw (letter, no_amp word b no_end, (rw letter at stands), other) at held.read in
    rw held.parts (read ∙ map_name held.front word b (url_text_from is_ended None rest))

map_held : (front word : List ℕ) (read : Option (List ℕ)) →
    option_map (λ more. front ++ more) (option_map (λ more. ampersand ∷ word ++ more) read) ≡ option_map (λ more. (front ++ ampersand ∷ word) ++ more) read
map_held front word None = refl
map_held front word (Some text) = ap Some (sym (append_assoc front (ampersand ∷ word) text))

next_read : (is_ended : Bool) (text rest markup : List ℕ) (b start : ℕ) → IsRead is_ended (Some start) text (b ∷ rest) markup → (b == ampersand) ≡ true →
    IsRead is_ended (Some (length text)) (text ++ b ∷ []) rest markup
next_read is_ended text rest markup b start (word, held) is =
    let same : b ≡ ampersand = eqb-true b ampersand is in
    let read = rw same at held.read in (
      [],
      record {
        front = text;
        parts = ap (λ x. text ++ x ∷ []) same;
        place = refl;
        read = read ∙ map_held held.front word (url_text_from is_ended (Some []) rest) ∙ ap (λ x. option_map (λ more. x ++ more) (url_text_from is_ended (Some []) rest)) (sym held.parts);
      },
    )

-- a `;` behind `&amp`
amp_read : (is_ended : Bool) (text rest markup : List ℕ) (b start : ℕ) → IsRead is_ended (Some start) text (b ∷ rest) markup → is_ascii_alphanumeric b ≡ false →
    (b == semicolon) ≡ true → bytes_eq (drop (start + 1) text) (codes "amp") ≡ true → IsRead is_ended None (take (start + 1) text) rest markup
amp_read is_ended text rest markup b start (word, held) other is name =
    let here : bytes_eq word (codes "amp") ≡ true = rw (held_word held.front word text start held.parts held.place) at name in
    let read = rw (other, is, here) at held.read in
    rw (held_front held.front word text start held.parts held.place) (read ∙ map_twice held.front (ampersand ∷ []) (url_text_from is_ended None rest))

-- another reference that it ends
end_refused : (is_ended : Bool) (text rest markup : List ℕ) (b start : ℕ) → IsRead is_ended (Some start) text (b ∷ rest) markup → is_ascii_alphanumeric b ≡ false →
    (b == semicolon) ≡ true → bytes_eq (drop (start + 1) text) (codes "amp") ≡ false → url_text is_ended markup ≡ None
end_refused is_ended text rest markup b start given_1 other is no_name = grind (arith, nat_tests, bytes_eq, held_word)

-- a `#` behind the `&`, which begins a number
number_read : (is_ended : Bool) (text rest markup : List ℕ) (b start : ℕ) → IsRead is_ended (Some start) text (b ∷ rest) markup → b ≡ number_sign → start + 1 ≡ length text →
    url_text is_ended markup ≡ None
number_read is_ended text rest markup b start given_1 sign nothing = grind (arith, nat_tests, held_length)

-- ---- what the running code takes

-- at a `;`
pub ended_reference : (is_amp : Bool) (text new_text : List ℕ) (b start : ℕ) (new_start : Option ℕ) → is_ascii_alphanumeric b ≡ false →
    b ≡ semicolon → is_amp ≡ bytes_eq (drop (start + 1) text) (codes "amp") → (is_amp ≡ true → new_text ≡ take (start + 1) text) →
    (is_amp ≡ true → new_start ≡ None) → Takes is_amp (Some start) text b new_start new_text
ended_reference true text new_text b start new_start other is amp taken none = grind (arith, nat_tests, amp_read)
ended_reference false text new_text b start new_start other is amp taken none = λ is_ended rest markup read.
    end_refused is_ended text rest markup b start read other (rw is refl) (sym amp)

-- a letter or digit behind a `&`
pub letter_takes : (text : List ℕ) (b start : ℕ) → is_ascii_alphanumeric b ≡ true → Takes true (Some start) text b (Some start) (text ++ b ∷ [])
letter_takes text b start letter = λ is_ended rest markup read. letter_held is_ended text rest markup b start read letter

-- a number
pub number_refused : (text new_text : List ℕ) (b start : ℕ) (new_start : Option ℕ) → b ≡ number_sign → start + 1 ≡ length text → Takes false (Some start) text b new_start new_text
number_refused text new_text b start new_start sign nothing = λ is_ended rest markup read. number_read is_ended text rest markup b start read sign nothing

-- a `&`
pub ampersand_takes : (held : Option ℕ) (text : List ℕ) (b : ℕ) → b ≡ ampersand → Takes true held text b (Some (length text)) (text ++ b ∷ [])
ampersand_takes None text b is = λ is_ended rest markup read. ampersand_held is_ended text rest markup b read (rw is refl)
ampersand_takes (Some start) text b is = λ is_ended rest markup read. next_read is_ended text rest markup b start read (rw is refl)

-- another byte
pub kept_takes : (text : List ℕ) (b : ℕ) → (b == ampersand) ≡ false → Takes true None text b None (text ++ b ∷ [])
kept_takes text b other = λ is_ended rest markup read. byte_kept is_ended text rest markup b read other

pub stands_takes : (text : List ℕ) (b start : ℕ) → is_ascii_alphanumeric b ≡ false → b ≢ semicolon → (b ≡ number_sign → start + 1 ≢ length text) → (b == ampersand) ≡ false →
    Takes true (Some start) text b None (text ++ b ∷ [])
stands_takes text b start letter no_end no_sign other = λ is_ended rest markup read. stands_read is_ended text rest markup b start read letter no_end no_sign other

-- at the end
all_read : (is_ended : Bool) (text markup : List ℕ) → IsRead is_ended None text [] markup → Some text ≡ url_text is_ended markup
all_read is_ended text markup read = ap Some (sym (append-nil text)) ∙ sym read

held_read : (text markup : List ℕ) (start : ℕ) → IsRead true (Some start) text [] markup → Some text ≡ url_text true markup
held_read text markup start (word, held) = ap Some held.parts ∙ sym held.read

pub ended_text : (held : Option ℕ) (text markup : List ℕ) (is_ended : Bool) → is_ended ≡ true → IsRead is_ended held text [] markup → Some text ≡ url_text is_ended markup
ended_text held text markup is_ended ended read = grind (arith, nat_tests, all_read, held_read)

pub open_text : (text markup : List ℕ) (start : ℕ) → IsRead false (Some start) text [] markup → url_text false markup ≡ None
open_text text markup start (word, held) = held.read

-- markup without a `&`
pub read_as_it_is : (is_ended : Bool) (markup : List ℕ) → list_any (λ b. b == ampersand) markup ≡ false → url_text is_ended markup ≡ Some markup
read_as_it_is is_ended [] none = refl
read_as_it_is is_ended (b ∷ markup) none =
    elim (cases_Bool (b == ampersand)) [
      | inl is ↦ let clash : true ≡ false = rw is at none in absurd (cc)
      | inr other ↦ let later : list_any (λ b. b == ampersand) markup ≡ false = rw other at none in
          rw (other, read_as_it_is is_ended markup later) refl
    ]
