-- The encodings of strings hold no `<` and no C0 control.
use Rattle.std.proofs.Common.{ℕ, zero, suc, ◌≡◌, ◌≢◌, Bool, nat_le, not, ◌&&◌, ◌≤◌, true, false, List, [], ◌∷◌, ◌==◌, ⊎_elim, flat_map, refl, sym, ◌∙◌, arith}
use Rattle.std.specs.Prelude.{chars}
use Rattle.std.proofs.lemmas.Bool.{and_parts, cases_Bool, cases_lt}
use Rattle.std.proofs.lemmas.Bool.Decides.{nat_tests}
use Rattle.std.proofs.lemmas.List.Elements.{All-append}
use Rattle.std.proofs.lemmas.Str.{encode_ascii}
use Rattle.std.proofs.Math.Utf8.{encode}
use Rattle.hesc_specs.specs.Text.Ascii.{less_than}
use Rattle.hesc_specs.specs.Text.HexDigits.{hex_digit}
use Rattle.hesc_specs.specs.Strings.Encoding.{IsPlain, is_escaped, string_encoding, string_escape, string_image}
use Rattle.hesc_specs.specs.declared.elements.Element.{Element}
use Rattle.hesc_specs.specs.declared.elements.Element.TheVariants.{Script, Style}
use Rattle.hesc_specs.specs.declared.quotes.Quotes.{Quotes}
use Rattle.hesc_specs.proofs.Strings.CharacterBytes.{encode_two, encode_three, encode_four, encode-replacement_character}

-- bytes that pass a test, read from the test
abbrev is_plain : ℕ → Bool
is_plain b = nat_le 32 b && not (b == less_than)

abbrev are_plain : List ℕ → Bool
are_plain [] = true
are_plain (b ∷ bytes) = is_plain b && are_plain bytes

plain_byte : (b : ℕ) → is_plain b ≡ true → (32 ≤ b) × (b ≢ less_than)
plain_byte b is = (grind (arith, nat_tests), λ same. let clash : true ≡ false = sym is ∙ rw same refl in cc)

plain_bytes : (bytes : List ℕ) → are_plain bytes ≡ true → IsPlain bytes
plain_bytes [] are k d below = absurd (omega arith)
plain_bytes (b ∷ bytes) are zero d below = plain_byte b (and_parts (is_plain b) (are_plain bytes) are).0
plain_bytes (b ∷ bytes) are (suc k) d below = plain_bytes bytes (and_parts (is_plain b) (are_plain bytes) are).1 k d (omega arith)

-- the bytes of a character that is plain itself
plain_encode : (c : ℕ) → 32 ≤ c → c ≢ less_than → IsPlain (encode c)
plain_encode c high other = grind (arith, nat_tests, cases_lt, encode_ascii, plain_bytes, encode_two, encode_three, encode_four)

plain_digit : (d : ℕ) → is_plain (hex_digit d) ≡ true
plain_digit d = grind (arith, nat_tests)

-- an escape is plain
script_escape : (c : ℕ) → IsPlain (string_escape Script c)
script_escape c = grind (arith, nat_tests)

style_escape : (c : ℕ) → IsPlain (string_escape Style c)
style_escape c = grind (arith, nat_tests, encode-replacement_character, plain_bytes, plain_digit)

escape : (element : Element) (c : ℕ) → IsPlain (string_escape element c)
escape element c = grind (arith, nat_tests, script_escape, style_escape)

-- a character that is kept is plain
kept_is_no_control : (element : Element) (quotes : Quotes) (c : ℕ) → is_escaped element quotes c ≡ false → 32 ≤ c
kept_is_no_control element quotes c kept = grind (arith, nat_tests)

kept_is_no_less_than : (element : Element) (quotes : Quotes) (c : ℕ) → is_escaped element quotes c ≡ false → c ≢ less_than
kept_is_no_less_than element quotes c kept is = let clash : true ≡ false = rw is at kept in cc

plain_image : (element : Element) (quotes : Quotes) (c : ℕ) → IsPlain (string_image element quotes c)
plain_image element quotes c = ⊎_elim
    (λ (replaced : is_escaped element quotes c ≡ true). rw replaced (escape element c))
    (λ (kept : is_escaped element quotes c ≡ false).
    rw kept (plain_encode c (kept_is_no_control element quotes c kept) (kept_is_no_less_than element quotes c kept)))
    (cases_Bool (is_escaped element quotes c))

plain_images : (element : Element) (quotes : Quotes) (characters : List ℕ) → IsPlain (flat_map (string_image element quotes) characters)
plain_images element quotes [] = plain_bytes [] refl
plain_images element quotes (c ∷ characters) =
    All-append (λ b. (32 ≤ b) × (b ≢ less_than)) (string_image element quotes c) (flat_map (string_image element quotes) characters) (plain_image element quotes c) (plain_images element quotes characters)

pub plain-string_encoding : (element : Element) (quotes : Quotes) (text : List ℕ) → IsPlain (string_encoding element quotes text)
plain-string_encoding element quotes text = plain_images element quotes (chars text)
