-- Equal encodings by a string encoder are of texts that are equal, in a style but for NUL: an image at the front of bytes determines its character.
use Rattle.std.proofs.Common.{ℕ, ◌≡◌, ◌≢◌, ◌+◌, ◌*◌, ◌/◌, ◌%◌, ◌<◌, ◌≤◌, true, false, List, [], ◌∷◌, ◌++◌, ◌==◌, ◌↔◌, ◌⊎◌, ⊎_elim, inl, inr, Option, Some, None, if◌then◌else◌, codes, drop, flat_map, length, map, IsUtf8, refl, sym, ◌∙◌, ap, ap₂, arith, length-append, ne_eqb}
use Rattle.std.specs.Prelude.{chars}
use Rattle.std.specs.Char.{digit_value}
use Rattle.std.proofs.lemmas.Bool.{cases_Bool, cases_eq}
use Rattle.std.proofs.lemmas.Bool.Decides.{nat_tests}
use Rattle.std.proofs.lemmas.List.{append_cancel_left}
use Rattle.std.proofs.lemmas.Str.{encode_ascii, encode_same, encodes-chars, encodes_same, len_utf8_bounds, length-encode}
use Rattle.std.proofs.Math.Utf8.{encode, encodes}
use Rattle.hesc_specs.specs.Text.Ascii.{backslash, lower_x, space}
use Rattle.hesc_specs.specs.Text.Classes.{element_in, is_of_style, is_style, string_class}
use Rattle.hesc_specs.specs.Text.Escaped.{by_class, escaped}
use Rattle.hesc_specs.specs.Text.HexDigits.{hex_digit}
use Rattle.hesc_specs.specs.Html.{encoding}
use Rattle.hesc_specs.specs.Text.Nul.{nul}
use Rattle.hesc_specs.specs.Strings.Encoding.{is_escaped, is_mark, line_separator, paragraph_separator, string_encoding, string_image, string_value}
use Rattle.hesc_specs.specs.declared.classes.Class.{Class}
use Rattle.hesc_specs.specs.declared.elements.Element.{Element}
use Rattle.hesc_specs.specs.declared.elements.Element.TheVariants.{Script, Style}
use Rattle.hesc_specs.specs.declared.quotes.Quotes.{Quotes}
use Rattle.hesc_specs.proofs.Strings.CharacterBytes.{is_escaped-cases}
use Rattle.hesc_specs.proofs.Html.DifferentTexts.{encoding-injective}
use Rattle.hesc_specs.proofs.Text.HexDigits.{digit_value-hex_digit}
use Rattle.hesc_specs.proofs.Text.NulCharacters.{nul-chars, nul_character}

-- the character that is read where a character was written
abbrev pub value_character : Element → ℕ → ℕ
value_character Script c = c
value_character Style c = nul_character c

nul_character-other : (c : ℕ) → c ≢ 0 → nul_character c ≡ c
nul_character-other c other = rw (ne_eqb c 0 other) refl

-- the number of two hex digits
hex_number : List ℕ → ℕ
hex_number (high ∷ low ∷ bytes) = digit_value high * 16 + digit_value low
hex_number bytes = 0

-- the separator of `2028` or `2029`, by the last digit
separator : List ℕ → ℕ
separator (a ∷ b ∷ c ∷ last ∷ bytes) = if last == 56 then line_separator else paragraph_separator
separator bytes = 0

-- the character that an escape stands for, by the bytes after its `\`: a mark, two hex digits, in a script after `x`, or after `u` a separator
escaped_character : Element → List ℕ → ℕ
escaped_character element [] = 0
escaped_character Script (b ∷ bytes) = if b == 117 then separator bytes else (if b == lower_x then hex_number bytes else b)
escaped_character Style (b ∷ bytes) = if is_mark b then b else hex_number (b ∷ bytes)

hex_number-hex_digits : (c : ℕ) (rest : List ℕ) → c < 128 → hex_number (hex_digit (c / 16) ∷ hex_digit (c % 16) ∷ rest) ≡ c
unfolding hex_number
hex_number-hex_digits c rest small =
    let high : digit_value (hex_digit (c / 16)) ≡ c / 16 = digit_value-hex_digit (c / 16) (omega arith) in
    let low : digit_value (hex_digit (c % 16)) ≡ c % 16 = digit_value-hex_digit (c % 16) (omega arith) in
    ap₂ (λ h l. h * 16 + l) high low ∙ omega arith

-- a hex digit is no mark, and a mark none of the letters
digit_is_no_mark : (d : ℕ) → d < 16 → is_mark (hex_digit d) ≡ false
digit_is_no_mark d small = grind (arith, nat_tests)

mark_is_no_u : (c : ℕ) → is_mark c ≡ true → c == 117 ≡ false
mark_is_no_u c mark = grind (arith, nat_tests)

mark_is_no_x : (c : ℕ) → is_mark c ≡ true → c == lower_x ≡ false
mark_is_no_x c mark = grind (arith, nat_tests)

module _ (quotes : Quotes) where
  -- the image is an escape, which gives the character's value
  abbrev IsEscape : Element → ℕ → Type 0
  IsEscape element c = (tail : List ℕ) × ((string_image element quotes c ≡ backslash ∷ tail) × ((rest : List ℕ) → escaped_character element (tail ++ rest) ≡ value_character element c))

  -- the image is the character's value itself, which is no `\`
  abbrev IsCharacter : Element → ℕ → Type 0
  IsCharacter element c = (string_image element quotes c ≡ encode (value_character element c)) × (value_character element c ≢ backslash)

  kept_is_no_backslash : (element : Element) (c : ℕ) → is_escaped element quotes c ≡ false → c ≢ backslash
  kept_is_no_backslash element c kept is = let clash : true ≡ false = rw is at kept in cc

  kept_is_no_nul : (element : Element) (c : ℕ) → is_escaped element quotes c ≡ false → c ≢ 0
  kept_is_no_nul element c kept is = let clash : true ≡ false = rw is at kept in cc

  kept : (element : Element) (c : ℕ) → is_escaped element quotes c ≡ false → IsCharacter element c
  kept Script c is = (rw is refl, kept_is_no_backslash Script c is)
  kept Style c is = let other : c == 0 ≡ false = ne_eqb c 0 (kept_is_no_nul Style c is) in (rw (is, other) refl, rw other (kept_is_no_backslash Style c is))

  script_escape : (c : ℕ) → is_escaped Script quotes c ≡ true → IsEscape Script c
  unfolding escaped_character separator
  script_escape c is = ⊎_elim
      (λ (mark : is_mark c ≡ true). (c ∷ [], (rw (is, mark) refl, λ rest. rw (mark_is_no_u c mark, mark_is_no_x c mark) refl)))
      (λ (no_mark : is_mark c ≡ false). elim (is_escaped-cases Script quotes c is) [
        | inl small ↦ (
          lower_x ∷ hex_digit (c / 16) ∷ hex_digit (c % 16) ∷ [],
          (rw (is, no_mark, ne_eqb c line_separator (λ same. omega arith), ne_eqb c paragraph_separator (λ same. omega arith)) refl, λ rest. hex_number-hex_digits c rest small),
        )
        | inr one ↦ elim one.1 [
          | inl line ↦ (codes "u2028", (rw line refl, λ rest. sym line))
          | inr paragraph ↦ (codes "u2029", (rw paragraph refl, λ rest. sym paragraph))
        ]
      ])
      (cases_Bool (is_mark c))

  style_escape : (c : ℕ) → is_escaped Style quotes c ≡ true → c ≢ 0 → IsEscape Style c
  unfolding escaped_character
  style_escape c is other = let no_nul : c == 0 ≡ false = ne_eqb c 0 other in ⊎_elim
      (λ (mark : is_mark c ≡ true). (c ∷ [], (rw (is, no_nul, mark) refl, λ rest. rw (mark, no_nul) refl)))
      (λ (no_mark : is_mark c ≡ false). elim (is_escaped-cases Style quotes c is) [
        | inl small ↦ (
          hex_digit (c / 16) ∷ hex_digit (c % 16) ∷ space ∷ [],
          (rw (is, no_nul, no_mark) refl, λ rest. rw (digit_is_no_mark (c / 16) (omega arith), no_nul) (hex_number-hex_digits c (space ∷ rest) small)),
        )
        | inr one ↦ let clash : Style ≡ Script = one.0 in cc
      ])
      (cases_Bool (is_mark c))

  replaced : (element : Element) (c : ℕ) → is_escaped element quotes c ≡ true → IsEscape element c ⊎ IsCharacter element c
  replaced Script c is = inl (script_escape c is)
  replaced Style c is = elim (cases_eq c 0) [
    | inl nul ↦ inr (rw nul refl, rw nul (λ same. omega (arith, same)))
    | inr other ↦ inl (style_escape c is other)
  ]

  written : (element : Element) (c : ℕ) → IsEscape element c ⊎ IsCharacter element c
  written element c = ⊎_elim (λ (is : is_escaped element quotes c ≡ true). replaced element c is) (λ (is : is_escaped element quotes c ≡ false). inr (kept element c is)) (cases_Bool (is_escaped element quotes c))

  -- an escape at the front is no character but `\`
  no_character : (tail bytes rest : List ℕ) (c : ℕ) → c ≢ backslash → (backslash ∷ tail) ++ bytes ≡ encode c ++ rest → ⊥
  no_character tail bytes rest c other same =
      let spelt : encode backslash ++ (tail ++ bytes) ≡ encode c ++ rest = ap (λ front. front ++ (tail ++ bytes)) (encode_ascii backslash (omega arith)) ∙ same in
      other (sym (encode_same backslash c (tail ++ bytes) rest spelt).0)

  module _ (element : Element) where
    abbrev image : ℕ → List ℕ
    image c = string_image element quotes c

    -- images at the front of the same bytes are of characters with the same value
    front : (c d : ℕ) (rest more : List ℕ) → image c ++ rest ≡ image d ++ more → value_character element c ≡ value_character element d
    front c d rest more same = elim (written element c) [
      | inl one ↦ elim (written element d) [
        | inl other ↦
            let fronts : (backslash ∷ one.0) ++ rest ≡ (backslash ∷ other.0) ++ more =
            ap (λ written. written ++ rest) (sym one.1.0) ∙ (same ∙ ap (λ written. written ++ more) other.1.0) in
            sym (one.1.1 rest) ∙ (ap (λ bytes. escaped_character element (drop 1 bytes)) fronts ∙ other.1.1 more)
        | inr other ↦
            absurd (no_character one.0 rest more (value_character element d) other.1 (ap (λ written. written ++ rest) (sym one.1.0) ∙ (same ∙ ap (λ written. written ++ more) other.0)))
      ]
      | inr one ↦ elim (written element d) [
        | inl other ↦
            absurd (no_character other.0 more rest (value_character element c) one.1 (ap (λ written. written ++ more) (sym other.1.0) ∙ (sym same ∙ ap (λ written. written ++ rest) one.0)))
        | inr other ↦
            (encode_same (value_character element c) (value_character element d) rest more
            (ap (λ written. written ++ rest) (sym one.0) ∙ (same ∙ ap (λ written. written ++ more) other.0))).0
      ]
    ]

    -- no image is empty
    image-length : (c : ℕ) → 1 ≤ length (image c)
    image-length c = elim (written element c) [
      | inl one ↦ omega (arith, ap length one.1.0)
      | inr one ↦ omega (arith, ap length one.0, length-encode (value_character element c), (len_utf8_bounds (value_character element c)).0)
    ]

    image-full : (c : ℕ) (rest : List ℕ) → [] ≡ image c ++ rest → ⊥
    image-full c rest same = omega (arith, ap length same, length-append (image c) rest, image-length c)

  -- the value of a character has its image
  image-value : (element : Element) (c : ℕ) → string_image element quotes (value_character element c) ≡ string_image element quotes c
  image-value Script c = refl
  image-value Style c = elim (cases_eq c 0) [
    | inl nul ↦ rw nul refl
    | inr other ↦ ap (string_image Style quotes) (nul_character-other c other)
  ]

  -- characters whose images are equal, joined, have equal values
  same_values : (element : Element) (a b : List ℕ) → flat_map (string_image element quotes) a ≡ flat_map (string_image element quotes) b → map (value_character element) a ≡ map (value_character element) b
  same_values element [] [] same = refl
  same_values element [] (d ∷ b) same = absurd (image-full element d (flat_map (string_image element quotes) b) same)
  same_values element (c ∷ a) [] same = absurd (image-full element c (flat_map (string_image element quotes) a) (sym same))
  same_values element (c ∷ a) (d ∷ b) same =
      let value : value_character element c ≡ value_character element d = front element c d (flat_map (string_image element quotes) a) (flat_map (string_image element quotes) b) same in
      let image : string_image element quotes d ≡ string_image element quotes c =
      sym (image-value element d) ∙ (ap (string_image element quotes) (sym value) ∙ image-value element c) in
      ap₂ (λ e rest. e ∷ rest) value
      (same_values element a b
      (append_cancel_left (string_image element quotes c) (flat_map (string_image element quotes) a) (flat_map (string_image element quotes) b)
      (same ∙ ap (λ written. written ++ flat_map (string_image element quotes) b) image)))

  -- and the values of characters have the characters' images
  same_images : (element : Element) (a : List ℕ) → flat_map (string_image element quotes) (map (value_character element) a) ≡ flat_map (string_image element quotes) a
  same_images element [] = refl
  same_images element (c ∷ a) = ap₂ (λ written rest. written ++ rest) (image-value element c) (same_images element a)

  same_characters : (a : List ℕ) → map (value_character Script) a ≡ a
  same_characters [] = refl
  same_characters (c ∷ a) = ap (λ rest. c ∷ rest) (same_characters a)

  -- what is read from an encoding is the values of the characters
  string_value-chars : (element : Element) (text : List ℕ) → IsUtf8 text → string_value element text ≡ encodes (map (value_character element) (chars text))
  string_value-chars Script text utf8 = sym (ap encodes (same_characters (chars text)) ∙ encodes-chars text utf8)
  string_value-chars Style text utf8 = nul-chars text utf8

  -- equal encodings by a string encoder are of texts that are read as the same
  pub same_value : (element : Element) (a b : List ℕ) → IsUtf8 a → IsUtf8 b → string_encoding element quotes a ≡ string_encoding element quotes b → string_value element a ≡ string_value element b
  same_value element a b first second same =
      string_value-chars element a first ∙ (ap encodes (same_values element (chars a) (chars b) same) ∙ sym (string_value-chars element b second))

  -- and texts that are read as the same have equal encodings
  pub same_encoding : (element : Element) (a b : List ℕ) → IsUtf8 a → IsUtf8 b → string_value element a ≡ string_value element b → string_encoding element quotes a ≡ string_encoding element quotes b
  same_encoding element a b first second same =
      let values : map (value_character element) (chars a) ≡ map (value_character element) (chars b) =
      encodes_same (map (value_character element) (chars a)) (map (value_character element) (chars b)) (sym (string_value-chars element a first) ∙ (same ∙ string_value-chars element b second)) in
      sym (same_images element (chars a)) ∙ (ap (λ characters. flat_map (string_image element quotes) characters) values ∙ same_images element (chars b))

-- equal encodings by an encoder of HTML or of a script's strings are of equal texts
of_element : (element : Element) (quotes : Quotes) (a b : List ℕ) → is_style (Some element) ≡ false → IsUtf8 a → IsUtf8 b → string_encoding element quotes a ≡ string_encoding element quotes b → a ≡ b
of_element Script quotes a b keeps first second same = same_value quotes Script a b first second same
of_element Style quotes a b keeps first second same = cc

of_class : (class : Class) (string : Option (Element × Quotes)) → string_class class ≡ string → is_style (element_in string) ≡ false → (a b : List ℕ) → IsUtf8 a → IsUtf8 b
    → by_class string (encoding class) string_encoding a ≡ by_class string (encoding class) string_encoding b → a ≡ b
of_class class None is keeps a b first second same = encoding-injective class a b is same
of_class class (Some string) is keeps a b first second same = of_element string.0 string.1 a b keeps first second same

pub escaped-injective : (class : Class) (a b : List ℕ) → is_of_style class ≡ false → IsUtf8 a → IsUtf8 b → escaped class a ≡ escaped class b → a ≡ b
escaped-injective class a b keeps first second same = of_class class (string_class class) refl keeps a b first second same

-- equal encodings by an encoder of a style's strings are of texts that are equal but for NUL and U+FFFD
style_of_element : (element : Element) (quotes : Quotes) (a b : List ℕ) → is_style (Some element) ≡ true → IsUtf8 a → IsUtf8 b
    → (string_encoding element quotes a ≡ string_encoding element quotes b) ↔ (nul a ≡ nul b)
style_of_element Script quotes a b keeps first second = absurd (cc)
style_of_element Style quotes a b keeps first second = (same_value quotes Style a b first second, same_encoding quotes Style a b first second)

style_of_class : (class : Class) (string : Option (Element × Quotes)) → is_style (element_in string) ≡ true → (a b : List ℕ) → IsUtf8 a → IsUtf8 b
    → (by_class string (encoding class) string_encoding a ≡ by_class string (encoding class) string_encoding b) ↔ (nul a ≡ nul b)
style_of_class class None keeps a b first second = absurd (cc)
style_of_class class (Some string) keeps a b first second = style_of_element string.0 string.1 a b keeps first second

pub escaped-style : (class : Class) (a b : List ℕ) → is_of_style class ≡ true → IsUtf8 a → IsUtf8 b → (escaped class a ≡ escaped class b) ↔ (nul a ≡ nul b)
escaped-style class a b keeps first second = style_of_class class (string_class class) keeps a b first second
