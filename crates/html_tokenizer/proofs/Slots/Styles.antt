-- What the encoder of a style's strings writes stays in the string, and is read as the text, with
-- U+FFFD for NUL.
use Rattle.std.proofs.Common.{ℕ, ◌≡◌, Bool, true, false, ◌&&◌, List, [], ◌∷◌, ◌++◌, ◌==◌, IsUtf8, length, map, encode_utf8, nat_lt, refl, ◌∙◌, arith}
use Rattle.std.specs.Char.{is_digit}
use Rattle.std.specs.Str.Parse.{digits_value}
use Rattle.std.proofs.lemmas.Bool.Decides.{nat_tests}
use Rattle.hesc_specs.specs.Text.Ascii.{backslash, double_quote, less_than, single_quote, space}
use Rattle.hesc_specs.specs.Text.Nul.{nul}
use Rattle.hesc_specs.specs.Strings.Encoding.{string_encoding}
use Rattle.hesc_specs.specs.declared.elements.Element.TheVariants.{Style}
use Rattle.hesc_specs.specs.declared.quotes.Quotes.{Quotes}
use Rattle.hesc_specs.specs.declared.quotes.Quotes.TheVariants as quotes
use Rattle.hesc_grammars.specs.StyleStrings.{escaped_character, is_newline_or_nul}
use Rattle.hesc_grammars.proofs.EncodedStrings.{style_encoding_reads}
use Rattle.html_tokenizer.specs.declared.slot_place.SlotPlace.{SlotPlace}
use Rattle.html_tokenizer.specs.declared.slot_place.SlotPlace.TheVariants as place
use Rattle.html_tokenizer.specs.declared.elements.Content.{Content}
use Rattle.html_tokenizer.specs.Tokenizer.Actions.{read_byte}
use Rattle.html_tokenizer.specs.Tokenizer.Code.Strings.{is_escape_space, string_byte, style_escape_byte}
use Rattle.html_tokenizer.specs.Tokenizer.States.{In, Within, Ordinary, at}
use Rattle.html_tokenizer.specs.Tokenizer.Tokenization.{consume}
use Rattle.html_tokenizer.specs.Tokenizer.Transitions.{goes}
use Rattle.html_tokenizer.proofs.Passing.{Passes, passes_both, passes_one}
use Rattle.html_tokenizer.proofs.Slots.Strings.{ReadsString, StaysIn, begins_escape, string_keeps}

-- the string of a style that this mark ends
pub record ReadsStyle (p : SlotPlace) (mark : ℕ) (quotes : Quotes) (content : Content) : Type 0 where
  pub string : ReadsString p mark quotes is_newline_or_nul content
  pub within : (word : List ℕ) (b : ℕ) → consume (at (Within p word) content) b ≡
      style_escape_byte p content Ordinary word b (string_byte is_newline_or_nul mark p content Ordinary b)

abbrev pub is_hex : ℕ → Bool
is_hex b = is_digit b 16

-- the byte goes on after digits, of which six are the most
abbrev pub is_next_digit : List ℕ → ℕ → Bool
is_next_digit digits b = is_hex b && nat_lt (length digits) 6

module _ {p : SlotPlace} {mark : ℕ} {quotes : Quotes} {content : Content} (reads : ReadsStyle p mark quotes content) where
  -- a `\` and a byte that is no digit
  pub byte_stays : (b : ℕ) → is_hex b ≡ false → is_newline_or_nul b ≡ false → (b == less_than) ≡ false → StaysIn p content (backslash ∷ b ∷ []) (b ∷ [])
  byte_stays b no_digit no_newline no_less =
      begins_escape reads.string (passes_one (read_byte p b ∷ []) (reads.within [] b ∙ rw (no_digit, no_newline, no_less) refl))

  -- a `\` and digits are held
  abbrev pub Held : ℕ → List ℕ → Type 0
  Held d digits = Passes (at (In p) content) (backslash ∷ d ∷ digits) [] (at (Within p (d ∷ digits)) content)

  pub first_digit : (d : ℕ) → is_hex d ≡ true → Held d []
  first_digit d hex =
      let is : consume (at (Within p []) content) d ≡ goes (Within p (d ∷ [])) content [] = reads.within [] d ∙ rw hex refl in
      begins_escape reads.string (passes_one [] is)

  pub next_digit : (d e : ℕ) (digits : List ℕ) → is_next_digit (d ∷ digits) e ≡ true → Held d digits → Held d (digits ++ e ∷ [])
  next_digit d e digits next held =
      let is : consume (at (Within p (d ∷ digits)) content) e ≡ goes (Within p (d ∷ (digits ++ e ∷ []))) content [] =
      reads.within (d ∷ digits) e ∙ rw next refl in
      passes_both held (passes_one [] is)

  -- white space after them belongs to the escape
  pub digits_stay : (d s : ℕ) (digits : List ℕ) → is_next_digit (d ∷ digits) s ≡ false → is_escape_space s ≡ true → Held d digits →
      StaysIn p content (backslash ∷ d ∷ (digits ++ s ∷ [])) (encode_utf8 (escaped_character (digits_value 16 (d ∷ digits))))
  digits_stay d s digits stops blank held =
      let character : List ℕ = encode_utf8 (escaped_character (digits_value 16 (d ∷ digits))) in
      let is : consume (at (Within p (d ∷ digits)) content) s ≡ goes (In p) content (map (read_byte p) character) =
      reads.within (d ∷ digits) s ∙ rw (stops, blank) refl in
      passes_both held (passes_one (map (read_byte p) character) is)

  two_digits_stay : (d e : ℕ) → is_digit d 16 ≡ true → is_digit e 16 ≡ true →
      StaysIn p content (backslash ∷ d ∷ e ∷ space ∷ []) (encode_utf8 (escaped_character (digits_value 16 (d ∷ e ∷ []))))
  two_digits_stay d e first second = digits_stay d space (e ∷ []) refl refl (next_digit d e [] (rw second refl) (first_digit d first))

  pub style_stays : (text : List ℕ) → IsUtf8 text → StaysIn p content (string_encoding Style quotes text) (nul text)
  style_stays text utf8 =
      style_encoding_reads (string_keeps reads.string Style (λ c kept. grind (arith, nat_tests))) byte_stays two_digits_stay text utf8

pub style_single_reads : (content : Content) → ReadsStyle place.StyleSingle single_quote quotes.Single content
unfolding consume
style_single_reads content = record {
  string = record { bytes = λ b. refl; quote = refl; high = λ b high. grind (arith, nat_tests); one = λ b. refl; end = refl };
  within = λ word b. refl;
}

pub style_double_reads : (content : Content) → ReadsStyle place.StyleDouble double_quote quotes.Double content
unfolding consume
style_double_reads content = record {
  string = record { bytes = λ b. refl; quote = refl; high = λ b high. grind (arith, nat_tests); one = λ b. refl; end = refl };
  within = λ word b. refl;
}
