-- Markup and texts are decoded one by one, where no escape is open at the end of markup.
use Rattle.std.proofs.Common.{◌≡◌, ◌≢◌, ℕ, ◌+◌, ◌*◌, Bool, true, false, ◌&&◌, ◌||◌, ◌==◌, List, [], ◌∷◌, ◌++◌, map, All, sym, refl, ap, ◌∙◌, append_assoc, append-nil, arith, inl, inr}
use Rattle.std.proofs.lemmas.Bool.Decides.{nat_tests}
use Rattle.std.specs.Bool.{⊤}
use Rattle.std.specs.Char.{digit_value, is_digit}
use Rattle.std.specs.List.{list_any}
use Rattle.std.proofs.lemmas.Bool.{both_ways, cases_Bool, cases_eq, eq-eqb}
use Rattle.std.proofs.lemmas.List.{map-append}
use Rattle.std.proofs.lemmas.List.Elements.{All-head, All-nil, All-tail}
use Rattle.form_urlencoded.specs.Form.{IsPlain, decode, plus_to_space}
use Rattle.form_urlencoded.proofs.FormLemmas.{decode_plain, map-plus_to_space}
use Rattle.percent_encoding.specs.declared.ascii_set.AsciiSet.{AsciiSet}
use Rattle.percent_encoding.specs.AsciiSet.{should_percent_encode}
use Rattle.percent_encoding.specs.Percent.{is_escape, percent_decode, percent_encode, percent_encode_byte}
use Rattle.percent_encoding.proofs.PercentLemmas.{IsByte, percent_decode-nil, percent_decode-percent_encode_byte, percent_decode_not_percent, percent_encode-nil, percent_encode_escaped, percent_encode_kept}
use Rattle.html_urls.specs.declared.component.TheConstants.{ADDRESS, COMPONENT}
use Rattle.html_urls.specs.Components.{component, component_at}
use Rattle.html_urls.specs.declared.place.UrlPlace.{UrlPlace}
use Rattle.html_urls.specs.declared.place.UrlPlace.TheVariants.{Path, OpaquePath, Query, Fragment}
use Rattle.html_urls.specs.Decoded.{decoded_behind, decoded_by, form_text, percent_text}
use Rattle.html_urls.specs.Slots.{Given, Markup, Slot, ends_in_escape, url_of}
use Rattle.html_urls.proofs.Bytes.{AllBytes}
use Rattle.html_urls.proofs.Components.{component_without}
use Rattle.html_urls.proofs.Shapes.FormSlots.{AllSlots, FormSlots, IsForm, any_slots}
use Rattle.html_urls.proofs.OpenEscapes.{ClosesEscapes, closed_behind, closed_markup, closes_escapes, later_closed}

-- ---- bytes that end in no open escape

-- `%` and a byte that is no digit are kept, whatever follows
pub kept_percent : (c : ℕ) (ys : List ℕ) → is_digit c 16 ≡ false → percent_decode (37 ∷ c ∷ ys) ≡ 37 ∷ percent_decode (c ∷ ys)
unfolding percent_decode
kept_percent c ys other = grind (arith, nat_tests)

no_percent : (b : ℕ) → (b == 37) ≡ false → b ≢ 37
no_percent b other same = both_ways _ other (eq-eqb b 37 same)

-- one byte and what follows it
one_kept : (b : ℕ) (ys : List ℕ) → (b == 37) ≡ false → percent_decode (b ∷ ys) ≡ b ∷ percent_decode ys
one_kept b ys other = percent_decode_not_percent b ys (no_percent b other)

pub decode_joined : (xs ys : List ℕ) → ends_in_escape xs ≡ false → percent_decode (xs ++ ys) ≡ percent_decode xs ++ percent_decode ys
unfolding percent_decode
decode_joined [] ys closed = refl
decode_joined (b ∷ []) ys closed = one_kept b ys closed
decode_joined (b ∷ c ∷ []) ys closed =
    let last : (c == 37) ≡ false = later_closed b (c ∷ []) closed in
    elim (cases_eq b 37) [
      | inl percent ↦ let other : is_digit c 16 ≡ false = rw (last, eq-eqb b 37 percent) at closed in
          ap (λ x. percent_decode (x ∷ c ∷ ys)) percent ∙ kept_percent c ys other ∙ ap (λ l. 37 ∷ l) (one_kept c ys last) ∙ ap (λ x. x ∷ c ∷ percent_decode ys) (sym percent)
      | inr other ↦ percent_decode_not_percent b (c ∷ ys) other ∙ ap (λ l. b ∷ l) (one_kept c ys last)
    ]
decode_joined (b ∷ c ∷ d ∷ xs) ys closed =
    let after = later_closed d xs (later_closed c (d ∷ xs) closed) in
    let next = decode_joined xs ys after in
    let all = decode_joined (c ∷ d ∷ xs) ys closed in
    elim (cases_Bool (is_escape b c d)) [ inl escape ↦ rw escape (ap (λ l. (16 * digit_value c + digit_value d) ∷ l) next) | inr none ↦ rw none (ap (λ l. b ∷ l) all) ]

-- ---- a text that a set encodes, and `%` with it, and what follows

decode_text : (set : AsciiSet) → should_percent_encode set 37 ≡ true → (text ys : List ℕ) → All IsByte text → percent_decode (percent_encode set text ++ ys) ≡ text ++ percent_decode ys
decode_text set percent [] ys bytes = ap (λ l. percent_decode (l ++ ys)) (percent_encode-nil set)
decode_text set percent (b ∷ text) ys bytes =
    let later = ap (λ l. b ∷ l) (decode_text set percent text ys (All-tail IsByte b text bytes)) in
    elim (cases_Bool (should_percent_encode set b)) [
      | inl escaped ↦ ap (λ l. percent_decode (l ++ ys)) (percent_encode_escaped set b text escaped)
          ∙ ap percent_decode (append_assoc (percent_encode_byte b) (percent_encode set text) ys)
          ∙ percent_decode-percent_encode_byte b (percent_encode set text ++ ys) (All-head IsByte b text bytes) ∙ later
      | inr kept ↦ ap (λ l. percent_decode (l ++ ys)) (percent_encode_kept set b text kept)
          ∙ percent_decode_not_percent b (percent_encode set text ++ ys) (λ same. both_ways (should_percent_encode set 37) (ap (should_percent_encode set) (sym same) ∙ kept) percent) ∙ later
    ]

decode_at : (at : UrlPlace) → ⊤ → (text ys : List ℕ) → All IsByte text → percent_decode (component_at at text ++ ys) ≡ text ++ percent_decode ys
unfolding should_percent_encode
decode_at Path suits text ys bytes = decode_text COMPONENT refl text ys bytes
decode_at OpaquePath suits text ys bytes = decode_text ADDRESS refl text ys bytes
decode_at Query suits text ys bytes = decode_text COMPONENT refl text ys bytes
decode_at Fragment suits text ys bytes = decode_text COMPONENT refl text ys bytes

-- ---- the same of a form, where `+` is a space

pub plus_percent : (b : ℕ) → (plus_to_space b == 37) ≡ (b == 37)
plus_percent b = grind (arith, nat_tests)

pub plus_digit : (b : ℕ) → is_digit (plus_to_space b) 16 ≡ is_digit b 16
plus_digit b = grind (arith, nat_tests)

plus_closed : (bytes : List ℕ) → ends_in_escape (map plus_to_space bytes) ≡ ends_in_escape bytes
plus_closed [] = refl
plus_closed (b ∷ []) = plus_percent b
plus_closed (b ∷ c ∷ []) =
    let one = plus_percent b in
    let two = plus_percent c in
    let digit = plus_digit c in
    λ i. two i || (one i && digit i)
plus_closed (b ∷ c ∷ d ∷ bytes) = plus_closed (c ∷ d ∷ bytes)

pub form_joined : (xs ys : List ℕ) → ends_in_escape xs ≡ false → decode (xs ++ ys) ≡ decode xs ++ decode ys
form_joined xs ys closed = grind (arith, nat_tests, map-append, decode_joined, map, plus_closed)

form_of_text : (text ys : List ℕ) → All IsByte text → decode (component text ++ ys) ≡ text ++ decode ys
form_of_text text ys bytes =
    ap percent_decode (map-append plus_to_space (component text) ys ∙ ap (λ l. l ++ map plus_to_space ys) (map-plus_to_space (component text) (component_without 43 refl text)))
    ∙ decode_at Path tt text (map plus_to_space ys) bytes

-- ---- markup and slots

form_at : (at : UrlPlace) → IsForm at → (text ys : List ℕ) → All IsByte text → decode (component_at at text ++ ys) ≡ text ++ decode ys
form_at Path form text ys bytes = form_of_text text ys bytes
form_at OpaquePath form text ys bytes = cc
form_at Query form text ys bytes = form_of_text text ys bytes
form_at Fragment form text ys bytes = form_of_text text ys bytes

-- what is asked of a decoding, of slots in such places
pub record Decodes (Suits : UrlPlace → Type 0) (decoding : List ℕ → List ℕ) : Type 0 where
  pub nothing : decoding [] ≡ []
  pub joined : (xs ys : List ℕ) → ends_in_escape xs ≡ false → decoding (xs ++ ys) ≡ decoding xs ++ decoding ys
  pub text : (at : UrlPlace) → Suits at → (text ys : List ℕ) → All IsByte text → decoding (component_at at text ++ ys) ≡ text ++ decoding ys

pub percent_decodes : Decodes (λ at. ⊤) percent_decode
percent_decodes = record { nothing = percent_decode-nil; joined = decode_joined; text = decode_at }

pub form_decodes : Decodes IsForm decode
form_decodes = record { nothing = percent_decode-nil; joined = form_joined; text = form_at }

-- behind what is decoded so far
decoded_on : (Suits : UrlPlace → Type 0) (decoding : List ℕ → List ℕ) → Decodes Suits decoding → (done : List ℕ) (parts : List Given) (texts : List (List ℕ)) → AllBytes texts → AllSlots Suits parts → closes_escapes parts ≡ true →
    done ++ decoding (url_of parts texts) ≡ decoded_behind decoding done parts texts
decoded_on Suits decoding decodes done [] texts bytes suits closed = ap (λ l. done ++ l) decodes.nothing ∙ append-nil done
decoded_on Suits decoding decodes done (Markup [] ∷ []) texts bytes suits closed = decoded_on Suits decoding decodes done [] texts bytes tt refl
decoded_on Suits decoding decodes done (Markup [] ∷ part ∷ parts) texts bytes suits closed = decoded_on Suits decoding decodes done (part ∷ parts) texts bytes suits closed
decoded_on Suits decoding decodes done (Markup (b ∷ markup) ∷ []) texts bytes suits closed = ap (λ l. done ++ decoding l) (append-nil (b ∷ markup))
decoded_on Suits decoding decodes done (Markup (b ∷ markup) ∷ part ∷ parts) texts bytes suits closed =
    ap (λ l. done ++ l) (decodes.joined (b ∷ markup) (url_of (part ∷ parts) texts) (closed_markup (b ∷ markup) part parts closed))
    ∙ sym (append_assoc done (decoding (b ∷ markup)) (decoding (url_of (part ∷ parts) texts)))
    ∙ decoded_on Suits decoding decodes (done ++ decoding (b ∷ markup)) (part ∷ parts) texts bytes suits (closed_behind (b ∷ markup) (part ∷ parts) closed)
decoded_on Suits decoding decodes done (Slot at ∷ parts) [] bytes suits closed = decoded_on Suits decoding decodes done parts [] bytes suits.1 closed
decoded_on Suits decoding decodes done (Slot at ∷ parts) (text ∷ texts) bytes suits closed =
    ap (λ l. done ++ l) (decodes.text at suits.0 text (url_of parts texts) (All-head (All IsByte) text texts bytes))
    ∙ sym (append_assoc done text (decoding (url_of parts texts)))
    ∙ decoded_on Suits decoding decodes (done ++ text) parts texts (All-tail (All IsByte) text texts bytes) suits.1 closed

-- THE DECODING LAW
pub decoding_law : (Suits : UrlPlace → Type 0) (decoding : List ℕ → List ℕ) → Decodes Suits decoding → (parts : List Given) (texts : List (List ℕ)) → AllBytes texts → AllSlots Suits parts → closes_escapes parts ≡ true → decoding (url_of parts texts) ≡ decoded_by decoding parts texts
decoding_law Suits decoding decodes parts texts bytes suits closed = decoded_on Suits decoding decodes [] parts texts bytes suits closed

-- ---- bytes that are decoded to themselves

no_mark : (b : ℕ) (bytes : List ℕ) → list_any (λ x. x == 37) (b ∷ bytes) ≡ false → (b ≢ 37) × (list_any (λ x. x == 37) bytes ≡ false)
no_mark b bytes none = grind (arith, nat_tests)

percent_kept : (bytes : List ℕ) → list_any (λ b. b == 37) bytes ≡ false → percent_decode bytes ≡ bytes
percent_kept [] none = percent_decode-nil
percent_kept (b ∷ bytes) none = let both = no_mark b bytes none in percent_decode_not_percent b bytes both.0 ∙ ap (λ l. b ∷ l) (percent_kept bytes both.1)

percent_is : (bytes : List ℕ) → percent_decode bytes ≡ percent_text bytes
percent_is bytes = grind (arith, nat_tests, percent_kept)

all_plain : (bytes : List ℕ) → list_any (λ b. b == 37 || b == 43) bytes ≡ false → All IsPlain bytes
all_plain [] none = All-nil IsPlain
all_plain (b ∷ bytes) none = by_tests (b == 37) (b == 43) refl refl none (all_plain bytes)
  where
    by_tests : (x y : Bool) → (b == 37) ≡ x → (b == 43) ≡ y → (x || y || list_any (λ c. c == 37 || c == 43) bytes) ≡ false → (list_any (λ c. c == 37 || c == 43) bytes ≡ false → All IsPlain bytes) → All IsPlain (b ∷ bytes)
    by_tests x y percent plus none later = grind (arith, nat_tests)

form_is : (bytes : List ℕ) → decode bytes ≡ form_text bytes
form_is bytes = grind (arith, nat_tests, decode_plain, all_plain)

-- THE SAME OF PERCENT-DECODING AND OF A FORM
pub percent_law : (parts : List Given) (texts : List (List ℕ)) → AllBytes texts → ClosesEscapes parts → percent_decode (url_of parts texts) ≡ decoded_by percent_text parts texts
percent_law parts texts bytes closed = decoding_law (λ at. ⊤) percent_decode percent_decodes parts texts bytes (any_slots parts) closed ∙ (λ i. decoded_by (λ l. percent_is l i) parts texts)

pub form_law : (parts : List Given) (texts : List (List ℕ)) → AllBytes texts → FormSlots parts → ClosesEscapes parts → decode (url_of parts texts) ≡ decoded_by form_text parts texts
form_law parts texts bytes form closed = decoding_law IsForm decode form_decodes parts texts bytes form closed ∙ (λ i. decoded_by (λ l. form_is l i) parts texts)
