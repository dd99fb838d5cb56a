-- What the string encoders write, by its pieces: what reads the characters that an encoder keeps, and its escapes, reads the
-- encoding of a text.
use Rattle.std.proofs.Common.{ℕ, ◌≡◌, ◌≢◌, ◌<◌, ◌/◌, ◌%◌, true, false, List, [], ◌∷◌, ◌++◌, ◌==◌, IsUtf8, length, map, flat_map, chars, encode_utf8, encode_utf8_all, refl, subst, sym, ap, ◌∙◌, arith}
use Rattle.std.specs.Char.{is_digit}
use Rattle.std.specs.Str.Parse.{digits_value}
use Rattle.std.proofs.lemmas.Bool.Decides.{nat_tests}
use Rattle.std.proofs.lemmas.List.Folds.{flat_map-map}
use Rattle.std.proofs.lemmas.Str.{encode_ascii, encodes-chars}
use Rattle.hesc_specs.specs.Text.Ascii.{backslash, less_than, space}
use Rattle.hesc_specs.specs.Text.HexDigits.{hex_digit}
use Rattle.hesc_specs.specs.Text.Nul.{nul}
use Rattle.hesc_specs.specs.Strings.Encoding.{is_escaped, is_mark, string_encoding, string_escape, string_image, string_value}
use Rattle.hesc_specs.specs.declared.elements.Element.{Element}
use Rattle.hesc_specs.specs.declared.elements.Element.TheVariants.{Script, Style}
use Rattle.hesc_specs.specs.declared.quotes.Quotes.{Quotes}
use Rattle.hesc_specs.proofs.Text.NulCharacters.{nul_character, nul-chars}
use Rattle.hesc_grammars.specs.declared.step.Mode.TheVariants.{Plain}
use Rattle.hesc_grammars.specs.declared.step.Step.TheVariants.{Character}
use Rattle.hesc_grammars.specs.ScriptStrings.{script_escape}
use Rattle.hesc_grammars.specs.StyleStrings.{escaped_character, is_newline_or_nul}
use Rattle.hesc_grammars.proofs.HexEscapes.{is_digit-hex_digit, two_digits}

-- what a character is read as: itself, but in a style U+FFFD for NUL
abbrev pub read_character : Element → ℕ → List ℕ
read_character Script c = encode_utf8 c
read_character Style c = encode_utf8 (nul_character c)

encoded-all : (cs : List ℕ) → flat_map encode_utf8 cs ≡ encode_utf8_all cs
encoded-all [] = refl
encoded-all (c ∷ cs) = ap (λ bytes. encode_utf8 c ++ bytes) (encoded-all cs)

characters-value : (element : Element) (text : List ℕ) → IsUtf8 text → flat_map (read_character element) (chars text) ≡ string_value element text
characters-value Script text utf8 = encoded-all (chars text) ∙ encodes-chars text utf8
characters-value Style text utf8 =
    sym (flat_map-map encode_utf8 nul_character (chars text)) ∙ encoded-all (map nul_character (chars text)) ∙ sym (nul-chars text utf8)

kept-itself : (element : Element) (quotes : Quotes) (c : ℕ) → is_escaped element quotes c ≡ false → read_character element c ≡ encode_utf8 c
kept-itself element quotes c kept = grind (arith, nat_tests)

-- nothing is read as nothing, pieces are read one after the other, and what the encoder keeps as itself
pub record ReadsKept (element : Element) (quotes : Quotes) (R : List ℕ → List ℕ → Type 0) : Type 0 where
  pub none : R [] []
  pub both : (p v q w : List ℕ) → R p v → R q w → R (p ++ q) (v ++ w)
  pub kept : (c : ℕ) → is_escaped element quotes c ≡ false → R (encode_utf8 c) (encode_utf8 c)

module _ {element : Element} {quotes : Quotes} {R : List ℕ → List ℕ → Type 0} (reads : ReadsKept element quotes R)
    (escapes : (c : ℕ) → is_escaped element quotes c ≡ true → R (string_escape element c) (read_character element c)) where
  image_reads : (c : ℕ) → R (string_image element quotes c) (read_character element c)
  image_reads c = grind (arith, nat_tests, kept-itself)

  images_read : (cs : List ℕ) → R (flat_map (string_image element quotes) cs) (flat_map (read_character element) cs)
  images_read [] = reads.none
  images_read (c ∷ cs) = reads.both _ _ _ _ (image_reads c) (images_read cs)

  encoding_reads : (text : List ℕ) → IsUtf8 text → R (string_encoding element quotes text) (string_value element text)
  encoding_reads text utf8 = rw (← characters-value element text utf8) (images_read (chars text))

-- ---- scripts

module _ {quotes : Quotes} {R : List ℕ → List ℕ → Type 0} (reads : ReadsKept Script quotes R)
    (escape : (c : ℕ) (word : List ℕ) → ((rest : List ℕ) → script_escape (word ++ rest) ≡ Character (length word) c Plain) → R (backslash ∷ word) (encode_utf8 c)) where
  escape_reads : (c : ℕ) → is_escaped Script quotes c ≡ true → R (string_escape Script c) (encode_utf8 c)
  escape_reads c escaped = grind (arith, nat_tests)

  pub script_encoding_reads : (text : List ℕ) → IsUtf8 text → R (string_encoding Script quotes text) text
  script_encoding_reads text utf8 = encoding_reads reads escape_reads text utf8

-- ---- styles

escaped-two_digits : (c : ℕ) → c < 128 → c ≢ 0 → escaped_character (digits_value 16 (two_digits c)) ≡ c
escaped-two_digits c small other = grind (arith, nat_tests)

style_escaped_is_ascii : (quotes : Quotes) (c : ℕ) → is_escaped Style quotes c ≡ true → c < 128
style_escaped_is_ascii quotes c escaped = grind (arith, nat_tests)

-- a `\` before one byte, and before two digits and a space
module _ {quotes : Quotes} {R : List ℕ → List ℕ → Type 0} (reads : ReadsKept Style quotes R)
    (byte : (b : ℕ) → is_digit b 16 ≡ false → is_newline_or_nul b ≡ false → (b == less_than) ≡ false → R (backslash ∷ b ∷ []) (b ∷ []))
    (digits : (d e : ℕ) → is_digit d 16 ≡ true → is_digit e 16 ≡ true →
    R (backslash ∷ d ∷ e ∷ space ∷ []) (encode_utf8 (escaped_character (digits_value 16 (d ∷ e ∷ []))))) where
  mark_reads : (c : ℕ) → c < 128 → is_mark c ≡ true → R (backslash ∷ c ∷ []) (encode_utf8 c)
  mark_reads c small marks = rw (encode_ascii c small) (byte c (grind (arith, nat_tests)) (grind (arith, nat_tests)) (grind (arith, nat_tests)))

  digits_read : (c : ℕ) → c < 128 → c ≢ 0 → R (backslash ∷ two_digits c ++ space ∷ []) (encode_utf8 c)
  digits_read c small other =
      subst (λ d. R (backslash ∷ two_digits c ++ space ∷ []) (encode_utf8 d)) (escaped-two_digits c small other)
      (digits (hex_digit (c / 16)) (hex_digit (c % 16)) (is_digit-hex_digit (c / 16) (omega arith)) (is_digit-hex_digit (c % 16) (omega arith)))

  ascii_reads : (c : ℕ) → c < 128 → R (string_escape Style c) (read_character Style c)
  ascii_reads c small = grind (arith, nat_tests, mark_reads, digits_read)

  pub style_encoding_reads : (text : List ℕ) → IsUtf8 text → R (string_encoding Style quotes text) (nul text)
  style_encoding_reads text utf8 = encoding_reads reads (λ c escaped. ascii_reads c (style_escaped_is_ascii quotes c escaped)) text utf8
