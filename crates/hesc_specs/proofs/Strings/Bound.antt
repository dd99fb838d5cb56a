-- By how much a string encoding is longer than its text at most, by the bytes of the text.
use Rattle.std.proofs.Common.{◌≡◌, ℕ, ◌+◌, ◌≤◌, ◌<◌, Bool, true, ◌||◌, not, ◌==◌, List, [], ◌∷◌, ◌++◌, Some, length, flat_map, if◌then◌else◌, IsUtf8, refl, sym, ap, ◌∙◌, length-append, inl, inr, arith}
use Rattle.std.proofs.lemmas.Bool.Decides.{nat_tests}
use Rattle.std.specs.Prelude.{chars}
use Rattle.std.specs.List.{sum_by}
use Rattle.std.proofs.lemmas.Bool.{and_parts}
use Rattle.std.proofs.lemmas.List.Sums.{sum_by-append}
use Rattle.std.proofs.lemmas.Str.{encode_ascii, encodes-chars}
use Rattle.std.proofs.Math.Utf8.{encode, encodes}
use Rattle.hesc_specs.specs.Text.Ascii.{backslash}
use Rattle.hesc_specs.specs.Text.Classes.{in_class, separator_lead, string_class}
use Rattle.hesc_specs.specs.Text.EscapedPlaces.{begins_escaped, completes_separator}
use Rattle.hesc_specs.specs.Strings.Encoding.{is_escaped, is_mark, string_encoding, string_escape, string_image}
use Rattle.hesc_specs.specs.declared.classes.Class.{Class}
use Rattle.hesc_specs.specs.declared.elements.Element.{Element}
use Rattle.hesc_specs.specs.declared.quotes.Quotes.{Quotes}
use Rattle.hesc_specs.proofs.Strings.CharacterBytes.{begins_escaped-character, encode-line_separator, encode-paragraph_separator, encode-replacement_character, is_escaped-cases}
use Rattle.hesc_specs.proofs.Text.SomeImages.{some-string_image}

-- a mark becomes two bytes, any other ASCII character four at most, and a separator, which has three, six
abbrev pub added_length : Class → ℕ → ℕ
added_length class b = if in_class class b then (if is_mark b then 1 else 3) else 0

-- the escape of an ASCII character
mark_or_number : (mark : Bool) (c : ℕ) (number : List ℕ) → length number ≡ 4 → length (if mark then backslash ∷ c ∷ [] else number) ≤ 1 + (if mark then 1 else 3)
mark_or_number mark c number long = grind (arith, nat_tests)

length-string_escape : (element : Element) (c : ℕ) → c < 128 → length (string_escape element c) ≤ 1 + (if is_mark c then 1 else 3)
length-string_escape element c small = grind (arith, nat_tests, mark_or_number, encode-replacement_character)

module _ (class : Class) (element : Element) (quotes : Quotes) (is : string_class class ≡ Some (element, quotes)) where
  -- the first byte of a replaced character is in the class
  first_in_class : (c b : ℕ) (bytes : List ℕ) → is_escaped element quotes c ≡ true → encode c ≡ b ∷ bytes → in_class class b ≡ true
  first_in_class c b bytes replaced spelt =
      let begins : begins_escaped class (b ∷ (bytes ++ [])) ≡ true =
      ap (λ all. begins_escaped class (all ++ [])) (sym spelt) ∙ begins_escaped-character class element quotes is c [] ∙ replaced in
      (and_parts (in_class class b) (not (b == separator_lead) || completes_separator (bytes ++ [])) begins).0

  separator-grows : (c last : ℕ) → is_escaped element quotes c ≡ true → encode c ≡ separator_lead ∷ 0x80 ∷ last ∷ []
      → 6 ≤ length (encode c) + sum_by (added_length class) (encode c)
  separator-grows c last replaced spelt = grind (arith, nat_tests, first_in_class)

  replaced-grows : (c : ℕ) → is_escaped element quotes c ≡ true → length (string_escape element c) ≤ length (encode c) + sum_by (added_length class) (encode c)
  replaced-grows c replaced = elim (is_escaped-cases element quotes c replaced) [
    | inl small ↦
        let there = first_in_class c c [] replaced (encode_ascii c small) in
        let short = length-string_escape element c small in
        rw (encode_ascii c small, there) (omega arith)
    | inr separator ↦ elim separator.1 [
      | inl line ↦
          let long = separator-grows c 0xA8 replaced (ap encode line ∙ encode-line_separator) in
          let written : length (string_escape element c) ≡ 6 = rw (separator.0, line) refl in
          omega (arith, long, written)
      | inr paragraph ↦
          let long = separator-grows c 0xA9 replaced (ap encode paragraph ∙ encode-paragraph_separator) in
          let written : length (string_escape element c) ≡ 6 = rw (separator.0, paragraph) refl in
          omega (arith, long, written)
    ]
  ]

  image-grows : (c : ℕ) (replaced : Bool) → is_escaped element quotes c ≡ replaced
      → length (string_image element quotes c) ≤ length (encode c) + sum_by (added_length class) (encode c)
  image-grows c replaced is_replaced = grind (arith, nat_tests, replaced-grows)

  images-grow : (characters : List ℕ) → length (flat_map (string_image element quotes) characters) ≤ length (encodes characters) + sum_by (added_length class) (encodes characters)
  images-grow [] = omega arith
  images-grow (c ∷ characters) =
      let image = string_image element quotes c in
      omega (arith, image-grows c (is_escaped element quotes c) refl, images-grow characters, length-append image (flat_map (string_image element quotes) characters), length-append (encode c) (encodes characters), sum_by-append (added_length class) (encode c) (encodes characters))

  pub length-string_encoding : (text : List ℕ) → IsUtf8 text → length (string_encoding element quotes text) ≤ length text + sum_by (added_length class) text
  length-string_encoding text utf8 = grind (arith, nat_tests, encodes-chars, images-grow)

no_characters : (element : Element) (quotes : Quotes) (characters : List ℕ) → flat_map (string_image element quotes) characters ≡ [] → characters ≡ []
no_characters element quotes [] none = refl
no_characters element quotes (c ∷ characters) none =
    absurd (omega (arith, some-string_image element quotes c, length-append (string_image element quotes c) (flat_map (string_image element quotes) characters), ap length none))

pub empty-string_encoding : (element : Element) (quotes : Quotes) (text : List ℕ) → IsUtf8 text → string_encoding element quotes text ≡ [] → text ≡ []
empty-string_encoding element quotes text utf8 none = sym (encodes-chars text utf8) ∙ ap encodes (no_characters element quotes (chars text) none)
