-- Strings of scripts and styles: what both have in common.
use Rattle.std.proofs.Common.{ℕ, ◌≡◌, ◌≤◌, Bool, true, false, List, [], ◌∷◌, ◌==◌, inl, inr, map, encode_utf8, refl, ◌∙◌, arith, ne_eqb}
use Rattle.std.proofs.lemmas.Bool.{cases_lt}
use Rattle.std.proofs.lemmas.Bool.Decides.{nat_tests}
use Rattle.std.proofs.lemmas.Str.{encode_ascii}
use Rattle.hesc_specs.specs.Strings.Encoding.{is_escaped, is_quote}
use Rattle.hesc_specs.specs.Text.Ascii.{backslash, less_than}
use Rattle.hesc_specs.specs.declared.elements.Element.{Element}
use Rattle.hesc_specs.specs.declared.quotes.Quotes.{Quotes}
use Rattle.hesc_specs.proofs.Text.HighBytes.{AreHigh, encode-high}
use Rattle.hesc_grammars.proofs.EncodedStrings.{ReadsKept}
use Rattle.hesc_grammars.proofs.EscapedMarks.{kept_is_no_mark, mark_is_ascii, mark_is_no_backslash}
use Rattle.html_tokenizer.specs.declared.slot_place.SlotPlace.{SlotPlace}
use Rattle.html_tokenizer.specs.declared.elements.Content.{Content}
use Rattle.html_tokenizer.specs.Tokenizer.Actions.{Action, StringByte, StringEnd, read_byte, value_end}
use Rattle.html_tokenizer.specs.Tokenizer.Code.Strings.{string_byte}
use Rattle.html_tokenizer.specs.Tokenizer.States.{Tokenizer, In, Within, Ordinary, at}
use Rattle.html_tokenizer.specs.Tokenizer.Tokenization.{consume}
use Rattle.html_tokenizer.specs.Tokenizer.Transitions.{goes, keeps}
use Rattle.html_tokenizer.proofs.Passing.{Passes, passes_none, passes_byte, passes_texts}

-- a string that this mark ends, and in which these bytes may not stand
pub record ReadsString (p : SlotPlace) (mark : ℕ) (quotes : Quotes) (breaks : ℕ → Bool) (content : Content) : Type 0 where
  pub bytes : (b : ℕ) → consume (at (In p) content) b ≡ string_byte breaks mark p content Ordinary b
  pub quote : is_quote quotes mark ≡ true
  pub high : (b : ℕ) → 128 ≤ b → breaks b ≡ false
  pub one : (b : ℕ) → read_byte p b ≡ StringByte b
  pub end : value_end p ≡ StringEnd ∷ []

abbrev pub StaysIn : SlotPlace → Content → List ℕ → List ℕ → Type 0
StaysIn p content bytes text = Passes (at (In p) content) bytes (map (read_byte p) text) (at (In p) content)

module _ {p : SlotPlace} {mark : ℕ} {quotes : Quotes} {breaks : ℕ → Bool} {content : Content} (reads : ReadsString p mark quotes breaks content) where
  -- a byte that stands as it is
  pub kept_byte : (b : ℕ) → (b == mark) ≡ false → (b == backslash) ≡ false → (b == less_than) ≡ false → breaks b ≡ false →
      {bytes : List ℕ} → StaysIn p content bytes bytes → StaysIn p content (b ∷ bytes) (b ∷ bytes)
  kept_byte b no_mark no_backslash no_less no_break rest =
      let is : consume (at (In p) content) b ≡ keeps p content Ordinary b =
      reads.bytes b ∙ rw (no_mark, no_backslash, no_less, no_break) refl in
      passes_byte is rest

  high_stays : (bytes : List ℕ) → AreHigh bytes → StaysIn p content bytes bytes
  high_stays [] high = passes_none
  high_stays (b ∷ bytes) high =
      let first : 128 ≤ b = high.0 in
      let small = mark_is_ascii quotes mark reads.quote in
      kept_byte b (ne_eqb b mark (omega arith)) (ne_eqb b backslash (omega arith)) (ne_eqb b less_than (omega arith)) (reads.high b first) (high_stays bytes high.1)

  kept_stays : (element : Element) (c : ℕ) → is_escaped element quotes c ≡ false → breaks c ≡ false → StaysIn p content (encode_utf8 c) (encode_utf8 c)
  kept_stays element c kept no_break =
      let no_backslash : (c == backslash) ≡ false = grind (arith, nat_tests) in
      let no_less : (c == less_than) ≡ false = grind (arith, nat_tests) in
      elim (cases_lt c 128) [
        | inl small ↦ rw (encode_ascii c small) (kept_byte c (kept_is_no_mark element quotes mark c reads.quote kept) no_backslash no_less no_break passes_none)
        | inr low ↦ high_stays (encode_utf8 c) (encode-high c low)
      ]

  -- where none of the characters that the encoder keeps may not stand in it
  pub string_keeps : (element : Element) → ((c : ℕ) → is_escaped element quotes c ≡ false → breaks c ≡ false) → ReadsKept element quotes (StaysIn p content)
  string_keeps element plain = record {
    none = passes_none;
    both = λ first v second w. passes_texts (read_byte p) v w;
    kept = λ c kept. kept_stays element c kept (plain c kept);
  }

  -- a `\` begins an escape
  pub begins_escape : {bytes : List ℕ} {actions : List Action} {u : Tokenizer} →
      Passes (at (Within p []) content) bytes actions u → Passes (at (In p) content) (backslash ∷ bytes) actions u
  begins_escape rest =
      let is : consume (at (In p) content) backslash ≡ goes (Within p []) content [] =
      reads.bytes backslash ∙ rw (mark_is_no_backslash quotes mark reads.quote) refl in
      passes_byte is rest
