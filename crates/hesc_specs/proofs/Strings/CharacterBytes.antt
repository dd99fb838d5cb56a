-- The bytes of a character determine whether a string encoder replaces it.
use Rattle.std.proofs.Common.{ℕ, ◌≡◌, ◌≢◌, ◌+◌, ◌/◌, ◌%◌, ◌≤◌, ◌<◌, Bool, true, false, ◌&&◌, ◌||◌, ◌==◌, List, [], ◌∷◌, ◌++◌, Option, Some, sym, ◌∙◌, ◌⊎◌, inl, inr, arith}
use Rattle.std.proofs.lemmas.Bool.{cases_eq, cases_lt}
use Rattle.std.proofs.lemmas.Bool.Decides.{nat_tests}
use Rattle.std.proofs.lemmas.Str.{encode_ascii}
use Rattle.std.proofs.Math.Utf8.{encode}
use Rattle.hesc_specs.specs.Text.Classes.{in_class, in_string_class, separator_lead, string_class}
use Rattle.hesc_specs.specs.Text.Escaped.{by_class}
use Rattle.hesc_specs.specs.Text.EscapedPlaces.{begins_escaped}
use Rattle.hesc_specs.specs.Text.Nul.{replacement_character}
use Rattle.hesc_specs.specs.Strings.Encoding.{is_escaped, is_separator, line_separator, paragraph_separator}
use Rattle.hesc_specs.specs.declared.classes.Class.{Class}
use Rattle.hesc_specs.specs.declared.elements.Element.{Element}
use Rattle.hesc_specs.specs.declared.elements.Element.TheVariants.{Script}
use Rattle.hesc_specs.specs.declared.quotes.Quotes.{Quotes}

-- the bytes of a character that is not ASCII
pub encode_two : (c : ℕ) → 128 ≤ c → c < 2048 → encode c ≡ (192 + c / 64) ∷ (128 + c % 64) ∷ []
unfolding encode
encode_two c low high = grind (arith, nat_tests)

pub encode_three : (c : ℕ) → 2048 ≤ c → c < 65536 → encode c ≡ (224 + c / 4096) ∷ (128 + c / 64 % 64) ∷ (128 + c % 64) ∷ []
unfolding encode
encode_three c low high = grind (arith, nat_tests)

pub encode_four : (c : ℕ) → 65536 ≤ c → encode c ≡ (240 + c / 262144) ∷ (128 + c / 4096 % 64) ∷ (128 + c / 64 % 64) ∷ (128 + c % 64) ∷ []
unfolding encode
encode_four c low = grind (arith, nat_tests)

test_of : ℕ → Option (Element × Quotes) → Bool
test_of b string = by_class string false (λ element quotes. in_string_class element quotes b)

-- the bytes of a string encoder's class are those of its element and quote marks
pub in_class-string : (class : Class) (element : Element) (quotes : Quotes) (b : ℕ) → string_class class ≡ Some (element, quotes) → in_class class b ≡ in_string_class element quotes b
unfolding test_of
in_class-string class element quotes b is = grind (arith, nat_tests)

is_escaped-high : (element : Element) (quotes : Quotes) (c : ℕ) → 128 ≤ c → is_escaped element quotes c ≡ is_separator element c
is_escaped-high element quotes c high = grind (arith, nat_tests)

-- another first byte begins no separator
is_separator-other : (element : Element) (c : ℕ) → c / 4096 ≢ 2 → is_separator element c ≡ false
is_separator-other element c other = grind (arith, nat_tests)

pub is_escaped-cases : (element : Element) (quotes : Quotes) (c : ℕ) → is_escaped element quotes c ≡ true → (c < 128) ⊎ ((element ≡ Script) × ((c ≡ line_separator) ⊎ (c ≡ paragraph_separator)))
is_escaped-cases element quotes c is = grind (arith, nat_tests)

-- the bytes of the characters beyond ASCII that the encoders name
pub encode-replacement_character : encode replacement_character ≡ 0xEF ∷ 0xBF ∷ 0xBD ∷ []
encode-replacement_character = encode_three replacement_character (omega arith) (omega arith)

pub encode-line_separator : encode line_separator ≡ separator_lead ∷ 0x80 ∷ 0xA8 ∷ []
encode-line_separator = encode_three line_separator (omega arith) (omega arith)

pub encode-paragraph_separator : encode paragraph_separator ≡ separator_lead ∷ 0x80 ∷ 0xA9 ∷ []
encode-paragraph_separator = encode_three paragraph_separator (omega arith) (omega arith)

module _ (class : Class) (element : Element) (quotes : Quotes) (is : string_class class ≡ Some (element, quotes)) where
  ascii_begins : (c : ℕ) (rest : List ℕ) → c < 128 → begins_escaped class (c ∷ rest) ≡ is_escaped element quotes c
  ascii_begins c rest small = grind (arith, nat_tests)

  other_begins : (b : ℕ) (rest : List ℕ) → 128 ≤ b → b ≢ separator_lead → begins_escaped class (b ∷ rest) ≡ false
  other_begins b rest high other = grind (arith, nat_tests)

  three_begin : (c : ℕ) (rest : List ℕ) → 2048 ≤ c → c < 65536 → begins_escaped class ((224 + c / 4096) ∷ (128 + c / 64 % 64) ∷ (128 + c % 64) ∷ rest) ≡ is_separator element c
  three_begin c rest low high = elim (cases_eq (c / 4096) 2) [
    | inl lead ↦ rw (lead, in_class-string class element quotes separator_lead is) (lead_begins element c rest lead)
    | inr other ↦ other_begins (224 + c / 4096) ((128 + c / 64 % 64) ∷ (128 + c % 64) ∷ rest) (omega arith) (λ same. other (omega arith)) ∙ sym (is_separator-other element c other)
  ]
    where
      lead_begins : (element : Element) (c : ℕ) (rest : List ℕ) → c / 4096 ≡ 2 → (in_string_class element quotes separator_lead && (128 + c / 64 % 64 == 0x80 && (128 + c % 64 == 0xA8 || 128 + c % 64 == 0xA9))) ≡ is_separator element c
      lead_begins element c rest lead = grind (arith, nat_tests)

  -- the encoder replaces a character exactly if its bytes begin what the encoder replaces
  pub begins_escaped-character : (c : ℕ) (rest : List ℕ) → begins_escaped class (encode c ++ rest) ≡ is_escaped element quotes c
  begins_escaped-character c rest = elim (cases_lt c 128) [
    | inl small ↦ rw (encode_ascii c small) (ascii_begins c rest small)
    | inr high ↦ elim (cases_lt c 2048) [
      | inl two ↦
          rw (encode_two c high two)
          (other_begins (192 + c / 64) ((128 + c % 64) ∷ rest) (omega arith) (λ same. omega arith) ∙ sym (is_escaped-high element quotes c high ∙ is_separator-other element c (λ same. omega arith)))
      | inr low ↦ elim (cases_lt c 65536) [
        | inl three ↦ rw (encode_three c low three) (three_begin c rest low three ∙ sym (is_escaped-high element quotes c high))
        | inr four ↦
            rw (encode_four c four)
            (other_begins (240 + c / 262144) ((128 + c / 4096 % 64) ∷ (128 + c / 64 % 64) ∷ (128 + c % 64) ∷ rest) (omega arith) (λ same. omega arith) ∙ sym (is_escaped-high element quotes c high ∙ is_separator-other element c (λ same. omega arith)))
      ]
    ]
  ]

  -- it begins with an ASCII byte or with the first byte of a character
  pub begins_escaped-lead : (b : ℕ) (bytes : List ℕ) → begins_escaped class (b ∷ bytes) ≡ true → 128 ≤ b → 192 ≤ b
  begins_escaped-lead b bytes begins high = grind (arith, nat_tests)
