-- A string decoder that knows an encoder's quote marks undoes it, whatever follows.
use Rattle.std.proofs.Common.{◌≡◌, ◌≢◌, ℕ, ◌/◌, ◌%◌, ◌≤◌, ◌<◌, true, false, ◌||◌, ◌==◌, List, [], ◌∷◌, ◌++◌, map, nat_lt, refl, sym, ap, ◌∙◌, append_assoc, ne_eqb, arith, inl, inr}
use Rattle.std.specs.Prelude.{IsTrue}
use Rattle.std.specs.List.{flat_map}
use Rattle.std.specs.Str.{IsUtf8, chars}
use Rattle.std.proofs.Math.Utf8.{encode, encodes}
use Rattle.std.proofs.lemmas.Bool.{cases_Bool, cases_eq, cases_lt}
use Rattle.std.proofs.lemmas.Bool.Decides.{nat_tests}
use Rattle.std.proofs.lemmas.Str.{encode_ascii, encodes-chars}
use Rattle.hesc_specs.specs.Text.Ascii.{space, less_than, backslash}
use Rattle.hesc_specs.specs.Text.HexDigits.{hex_digit}
use Rattle.hesc_specs.specs.Text.Nul.{replacement_character}
use Rattle.hesc_specs.specs.Strings.Encoding.{is_quote, is_separator, is_escaped, is_mark, string_escape, string_image, string_encoding, string_value}
use Rattle.hesc_specs.specs.Strings.Tokens.{knows, string_decoding}
use Rattle.hesc_specs.specs.declared.elements.Element.{Element}
use Rattle.hesc_specs.specs.declared.elements.Element.TheVariants.{Script, Style}
use Rattle.hesc_specs.specs.declared.quotes.Quotes.{Quotes}
use Rattle.hesc_specs.proofs.Text.HighBytes.{AreHigh, encode-high}
use Rattle.hesc_specs.proofs.Text.NulCharacters.{nul_character, nul-chars}

-- an escaped mark is `\` or one of the encoder's quote marks, and so one that the decoder knows
known-mark : (element : Element) (decoder encoder : Quotes) (c : ℕ) → IsTrue (knows decoder encoder) → is_mark c ≡ true → is_escaped element encoder c ≡ true
    → (c == backslash || is_quote decoder c) ≡ true
known-mark element decoder encoder c reads mark escaped = grind (arith, nat_tests)

-- what the decoder of an element gives back for a character
abbrev pub character_back : Element → ℕ → List ℕ
character_back Script c = encode c
character_back Style c = encode (nul_character c)

-- neither `\` nor `<`
abbrev pub ArePlain : List ℕ → Type 0
ArePlain [] = Unit {0}
ArePlain (b ∷ bytes) = ((b == backslash) ≡ false) × ((b == less_than) ≡ false) × ArePlain bytes

high-plain : (bytes : List ℕ) → AreHigh bytes → ArePlain bytes
high-plain [] high = tt
high-plain (b ∷ bytes) high = (ne_eqb b backslash (omega (arith, high.0)), ne_eqb b less_than (omega (arith, high.0)), high-plain bytes high.1)

encode-plain : (c : ℕ) → c ≢ backslash → c ≢ less_than → ArePlain (encode c)
encode-plain c no_backslash no_less_than = grind (arith, nat_tests, cases_lt, encode_ascii, high-plain, encode, encode-high)

module _ (element : Element) (decoder : Quotes) where
  -- whatever follows, the piece is read as the value, and then what follows is read
  abbrev pub Gives : List ℕ → List ℕ → Type 0
  Gives piece value = (rest : List ℕ) → string_decoding element decoder (piece ++ rest) ≡ value ++ string_decoding element decoder rest

  gives-both : (p v q w : List ℕ) → Gives p v → Gives q w → Gives (p ++ q) (v ++ w)
  gives-both p v q w first second rest =
      rw (append_assoc p q rest)
      (first (q ++ rest) ∙ (ap (λ x. v ++ x) (second rest) ∙ sym (append_assoc v w (string_decoding element decoder rest))))

  gives-each : (image value : ℕ → List ℕ) → ((c : ℕ) → Gives (image c) (value c)) → (characters : List ℕ) → Gives (flat_map image characters) (flat_map value characters)
  gives-each image value each [] = λ rest. refl
  gives-each image value each (c ∷ characters) = gives-both (image c) (value c) (flat_map image characters) (flat_map value characters) (each c) (gives-each image value each characters)

  gives-plain : (bytes : List ℕ) → ArePlain bytes → Gives bytes bytes
  gives-plain [] plain = λ rest. refl
  gives-plain (b ∷ bytes) plain = λ rest. rw (plain.0, plain.1) (ap (λ x. b ∷ x) (gives-plain bytes plain.2 rest))

  gives-mark : (c : ℕ) → (c == backslash || is_quote decoder c) ≡ true → (c == less_than) ≡ false → Gives (backslash ∷ c ∷ []) (encode c)
  gives-mark c mark no_less_than = λ rest. rw (mark, no_less_than) refl

gives-spaced : (decoder : Quotes) (c : ℕ) → (nat_lt c 32 || c == less_than) ≡ true → 1 ≤ c → c < 256
    → Gives Style decoder (backslash ∷ hex_digit (c / 16) ∷ hex_digit (c % 16) ∷ space ∷ []) (encode c)
gives-spaced decoder c number low small = grind (arith, nat_tests)

-- a character that the encoder keeps
kept : (element : Element) (encoder : Quotes) (c : ℕ) → is_escaped element encoder c ≡ false → (c ≢ 0) × (c ≢ backslash) × (c ≢ less_than)
kept element encoder c plain = (grind (arith, nat_tests), grind (arith, nat_tests), grind (arith, nat_tests))

gives-kept : (element : Element) (decoder : Quotes) (c : ℕ) → c ≢ 0 → c ≢ backslash → c ≢ less_than → Gives element decoder (encode c) (character_back element c)
gives-kept element decoder c some no_backslash no_less_than = grind (arith, nat_tests, gives-plain, encode, encode-plain)

mark-no_less_than : (c : ℕ) → is_mark c ≡ true → (c == less_than) ≡ false
mark-no_less_than c mark = grind (arith, nat_tests)

-- what is escaped and is no mark and no separator is `<` or a control
number-left : (element : Element) (encoder : Quotes) (c : ℕ) → is_escaped element encoder c ≡ true → is_mark c ≡ false → is_separator element c ≡ false
    → (nat_lt c 32 || c == less_than) ≡ true
number-left element encoder c escaped no_mark other = grind (arith, nat_tests)

number-small : (c : ℕ) → (nat_lt c 32 || c == less_than) ≡ true → c < 256
number-small c number = grind (arith, nat_tests)

module _ (decoder encoder : Quotes) (reads : IsTrue (knows decoder encoder)) where
  gives-script_escape : (c : ℕ) → is_escaped Script encoder c ≡ true → Gives Script decoder (string_escape Script c) (encode c)
  gives-script_escape c escaped = grind (arith, nat_tests)

  gives-style_escape : (c : ℕ) → is_escaped Style encoder c ≡ true → Gives Style decoder (string_escape Style c) (encode (nul_character c))
  gives-style_escape c escaped =
      elim (cases_eq c 0) [
        | inl is ↦ rw is (gives-plain Style decoder (encode replacement_character) (encode-plain replacement_character (omega arith) (omega arith)))
        | inr some ↦
            rw (ne_eqb c 0 some)
            (elim (cases_Bool (is_mark c)) [
              | inl mark ↦ rw mark (gives-mark Style decoder c (known-mark Style decoder encoder c reads mark escaped) (mark-no_less_than c mark))
              | inr no_mark ↦
                  let number : (nat_lt c 32 || c == less_than) ≡ true = number-left Style encoder c escaped no_mark refl in
                  rw no_mark (gives-spaced decoder c number (omega arith) (number-small c number))
            ])
      ]

  gives-escape : (element : Element) (c : ℕ) → is_escaped element encoder c ≡ true → Gives element decoder (string_escape element c) (character_back element c)
  gives-escape element c given_1 = grind (arith, nat_tests, gives-script_escape, gives-style_escape)

  gives-image : (element : Element) (c : ℕ) → Gives element decoder (string_image element encoder c) (character_back element c)
  gives-image element c = grind (arith, nat_tests, gives-escape, kept, gives-kept)

encode-each : (characters : List ℕ) → flat_map encode characters ≡ encodes characters
encode-each [] = refl
encode-each (c ∷ characters) = ap (λ rest. encode c ++ rest) (encode-each characters)

encode-nul : (characters : List ℕ) → flat_map (λ c. encode (nul_character c)) characters ≡ encodes (map nul_character characters)
encode-nul [] = refl
encode-nul (c ∷ characters) = ap (λ rest. encode (nul_character c) ++ rest) (encode-nul characters)

text_back : (element : Element) (text : List ℕ) → IsUtf8 text → flat_map (character_back element) (chars text) ≡ string_value element text
text_back Script text utf8 = encode-each (chars text) ∙ encodes-chars text utf8
text_back Style text utf8 = encode-nul (chars text) ∙ sym (nul-chars text utf8)

-- a decoder that knows the encoder's quote marks gives back its text, and then decodes what follows
pub string_decoding-encoding : (element : Element) (decoder encoder : Quotes) (text rest : List ℕ) → IsTrue (knows decoder encoder) → IsUtf8 text
    → string_decoding element decoder (string_encoding element encoder text ++ rest) ≡ string_value element text ++ string_decoding element decoder rest
string_decoding-encoding element decoder encoder text rest reads utf8 = grind (arith, nat_tests, gives-each, gives-image, text_back)
