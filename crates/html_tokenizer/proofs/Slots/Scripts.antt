-- What the encoder of a script's strings writes stays in the string, and is read as the text.
use Rattle.std.proofs.Common.{ℕ, ◌≡◌, ◌+◌, not, Bool, true, false, List, [], ◌∷◌, ◌++◌, ◌==◌, ◌⊎◌, inl, inr, Option, Some, None, if◌then◌else◌, IsUtf8, length, map, encode_utf8, refl, subst, sym, ap, ◌∙◌, arith, append-nil, length-append}
use Rattle.std.specs.Char.{is_digit}
use Rattle.std.specs.Int.{is_in_range}
use Rattle.std.specs.List.{list_all}
use Rattle.std.specs.Str.Parse.{digits_value}
use Rattle.std.proofs.lemmas.Bool.{and_parts, cases_Bool, eqb-true, false≢true}
use Rattle.std.proofs.lemmas.Bool.Decides.{nat_tests}
use Rattle.hesc_specs.specs.Text.Ascii.{backslash, double_quote, less_than, lower_x, single_quote, slash}
use Rattle.hesc_specs.specs.Strings.Encoding.{string_encoding}
use Rattle.hesc_specs.specs.declared.elements.Element.TheVariants.{Script}
use Rattle.hesc_specs.specs.declared.quotes.Quotes.{Quotes}
use Rattle.hesc_specs.specs.declared.quotes.Quotes.TheVariants as quotes
use Rattle.hesc_grammars.specs.declared.step.Mode.TheVariants.{Plain}
use Rattle.hesc_grammars.specs.declared.step.Step.TheVariants.{Character, Nothing}
use Rattle.hesc_grammars.specs.ScriptStrings.{hex_escape, lower_u, script_escape, single_escape}
use Rattle.hesc_grammars.proofs.EncodedStrings.{script_encoding_reads}
use Rattle.html_tokenizer.specs.declared.slot_place.SlotPlace.{SlotPlace}
use Rattle.html_tokenizer.specs.declared.slot_place.SlotPlace.TheVariants as place
use Rattle.html_tokenizer.specs.declared.elements.Content.{Content}
use Rattle.html_tokenizer.specs.declared.elements.OpenElement.{OpenElement}
use Rattle.html_tokenizer.specs.declared.elements.OpenElement.TheVariants as element
use Rattle.html_tokenizer.specs.declared.states.Code.TheVariants as code
use Rattle.html_tokenizer.specs.Tokenizer.Actions.{Action, StringEnd, StringStart, read_byte}
use Rattle.html_tokenizer.specs.Tokenizer.Code.{is_script}
use Rattle.html_tokenizer.specs.Tokenizer.Code.Comments.{ends_line}
use Rattle.html_tokenizer.specs.Tokenizer.Code.Scripts.{is_json_space, json_byte}
use Rattle.html_tokenizer.specs.Tokenizer.Code.Strings.{script_escape_byte}
use Rattle.html_tokenizer.specs.Tokenizer.States.{In, InCode, Within, Ordinary, at}
use Rattle.html_tokenizer.specs.Tokenizer.Tokenization.{consume}
use Rattle.html_tokenizer.specs.Tokenizer.Transitions.{goes}
use Rattle.html_tokenizer.proofs.Passing.{Passes, passes_both, passes_byte, passes_none, passes_one}
use Rattle.html_tokenizer.proofs.Slots.Strings.{ReadsString, StaysIn, begins_escape, string_keeps}

-- the string of a script that this mark ends
pub record ReadsScript (p : SlotPlace) (mark : ℕ) (quotes : Quotes) (content : Content) : Type 0 where
  pub string : ReadsString p mark quotes ends_line content
  pub within : (word : List ℕ) (b : ℕ) → consume (at (Within p word) content) b ≡ script_escape_byte p content Ordinary word b

-- an escape with which bytes after a `\` begin by the grammar, and which the tokenizer reads as the same character
pub record Escape (p : SlotPlace) (content : Content) (bytes : List ℕ) : Type 0 where
  pub word : List ℕ
  pub rest : List ℕ
  pub character : ℕ
  pub parts : bytes ≡ word ++ rest
  pub is : script_escape bytes ≡ Character (length word) character Plain
  pub stays : StaysIn p content (backslash ∷ word) (encode_utf8 character)

-- hex digits, whose number is no surrogate
record IsHex (count : ℕ) (digits : List ℕ) : Type 0 where
  all : list_all (λ b. is_digit b 16) digits ≡ true
  whole : is_in_range 0xD800 0xDFFF (digits_value 16 digits) ≡ false
  is : hex_escape count digits ≡ Character (count + 1) (digits_value 16 digits) Plain

hex_or_none : (count : ℕ) (digits : List ℕ) → (length digits == count) ≡ true → (hex_escape count digits ≡ Nothing) ⊎ IsHex count digits
hex_or_none count digits many =
    elim (cases_Bool (list_all (λ b. is_digit b 16) digits)) [
      | inl hex ↦
          elim (cases_Bool (is_in_range 0xD800 0xDFFF (digits_value 16 digits))) [
            | inl surrogate ↦ inl (rw (many, hex, surrogate) refl)
            | inr whole ↦ inr (record { all = hex; whole = whole; is = rw (many, hex, whole) refl })
          ]
      | inr other ↦ inl (rw (many, other) refl)
    ]

no_slash : (b c : ℕ) → single_escape b ≡ Some c → (b == slash) ≡ false
no_slash b c is =
    elim (cases_Bool (b == slash)) [
      | inl same ↦ let never : None ≡ Some c = rw (eqb-true b slash same) at is in cc
      | inr other ↦ other
    ]

-- what begins a list and is as long as it, is the list
same_front : (front rest whole : List ℕ) → whole ≡ front ++ rest → length front ≡ length whole → front ≡ whole
same_front front [] whole parts long = sym (parts ∙ append-nil front)
same_front front (b ∷ rest) whole parts long = absurd (omega (arith, ap length parts, length-append front (b ∷ rest)))

module _ {p : SlotPlace} {mark : ℕ} {quotes : Quotes} {content : Content} (reads : ReadsScript p mark quotes content) where
  -- a byte of an escape, and the one that completes it
  reads_on : {b : ℕ} {bytes : List ℕ} {actions : List Action} (word : List ℕ) →
      script_escape_byte p content Ordinary word b ≡ goes (Within p (word ++ b ∷ [])) content [] →
      Passes (at (Within p (word ++ b ∷ [])) content) bytes actions (at (In p) content) →
      Passes (at (Within p word) content) (b ∷ bytes) actions (at (In p) content)
  reads_on {b} word is rest = passes_byte (reads.within word b ∙ is) rest

  completes : {word : List ℕ} {b : ℕ} (text : List ℕ) → script_escape_byte p content Ordinary word b ≡ goes (In p) content (map (read_byte p) text) →
      Passes (at (Within p word) content) (b ∷ []) (map (read_byte p) text) (at (In p) content)
  completes {word} {b} text is = passes_one (map (read_byte p) text) (reads.within word b ∙ is)

  abbrev Reads : List ℕ → Type 0
  Reads bytes = (script_escape bytes ≡ Nothing) ⊎ Escape p content bytes

  two_digits : (d e : ℕ) (rest : List ℕ) → Reads (lower_x ∷ d ∷ e ∷ rest)
  two_digits d e rest =
      let digits : List ℕ = d ∷ e ∷ [] in
      elim (hex_or_none 2 digits refl) [
        | inl none ↦ inl none
        | inr hex ↦ inr (record {
          word = lower_x ∷ digits;
          rest = rest;
          character = digits_value 16 digits;
          parts = refl;
          is = hex.is;
          stays = begins_escape reads.string (reads_on [] refl
              (reads_on (lower_x ∷ []) (rw (and_parts (is_digit d 16) (list_all (λ b. is_digit b 16) (e ∷ [])) hex.all).0 refl)
              (completes (encode_utf8 (digits_value 16 digits)) (rw (hex.all, hex.whole) refl))));
        })
      ]

  four_digits : (d e f g : ℕ) (rest : List ℕ) → Reads (lower_u ∷ d ∷ e ∷ f ∷ g ∷ rest)
  four_digits d e f g rest =
      let digits : List ℕ = d ∷ e ∷ f ∷ g ∷ [] in
      elim (hex_or_none 4 digits refl) [
        | inl none ↦ inl none
        | inr hex ↦
            let first = and_parts (is_digit d 16) (list_all (λ b. is_digit b 16) (e ∷ f ∷ g ∷ [])) hex.all in
            let second = and_parts (is_digit e 16) (list_all (λ b. is_digit b 16) (f ∷ g ∷ [])) first.1 in
            let third = and_parts (is_digit f 16) (list_all (λ b. is_digit b 16) (g ∷ [])) second.1 in
            inr (record {
              word = lower_u ∷ digits;
              rest = rest;
              character = digits_value 16 digits;
              parts = refl;
              is = hex.is;
              stays = begins_escape reads.string (reads_on [] refl (reads_on (lower_u ∷ []) (rw first.0 refl)
                  (reads_on (lower_u ∷ d ∷ []) (rw (first.0, second.0) refl) (reads_on (lower_u ∷ d ∷ e ∷ []) (rw (first.0, second.0, third.0) refl)
                  (completes (encode_utf8 (digits_value 16 digits)) (rw (hex.all, hex.whole) refl))))));
            })
      ]

  after_x : (bytes : List ℕ) → Reads (lower_x ∷ bytes)
  after_x [] = inl refl
  after_x (d ∷ []) = inl refl
  after_x (d ∷ e ∷ rest) = two_digits d e rest

  after_u : (bytes : List ℕ) → Reads (lower_u ∷ bytes)
  after_u [] = inl refl
  after_u (d ∷ []) = inl refl
  after_u (d ∷ e ∷ []) = inl refl
  after_u (d ∷ e ∷ f ∷ []) = inl refl
  after_u (d ∷ e ∷ f ∷ g ∷ rest) = four_digits d e f g rest

  by_letter : (b : ℕ) (bytes : List ℕ) (c : Option ℕ) → single_escape b ≡ c → Reads (b ∷ bytes)
  by_letter b bytes (Some c) is = inr (record {
    word = b ∷ [];
    rest = bytes;
    character = c;
    parts = refl;
    is = rw is refl;
    stays = begins_escape reads.string (completes (encode_utf8 c) (rw (no_slash b c is, is) refl));
  })
  by_letter b bytes None none =
      elim (cases_Bool (b == lower_x)) [
        | inl x ↦ subst (λ d. Reads (d ∷ bytes)) (sym (eqb-true b lower_x x)) (after_x bytes)
        | inr no_x ↦
            elim (cases_Bool (b == lower_u)) [
              | inl u ↦ subst (λ d. Reads (d ∷ bytes)) (sym (eqb-true b lower_u u)) (after_u bytes)
              | inr no_u ↦ inl (rw (none, no_x, no_u) refl)
            ]
      ]

  pub escape_of : (bytes : List ℕ) → Reads bytes
  escape_of [] = inl refl
  escape_of (b ∷ bytes) = by_letter b bytes (single_escape b) refl

  -- what is an escape whatever follows it
  escape_stays : (c : ℕ) (word : List ℕ) → ((rest : List ℕ) → script_escape (word ++ rest) ≡ Character (length word) c Plain) →
      StaysIn p content (backslash ∷ word) (encode_utf8 c)
  escape_stays c word is =
      let alone : script_escape word ≡ Character (length word) c Plain = rw append-nil at (is []) in
      elim (escape_of word) [
        | inl none ↦ let never : Nothing ≡ Character (length word) c Plain = sym none ∙ alone in cc
        | inr e ↦
            let whole : Character (length e.word) e.character Plain ≡ Character (length word) c Plain = sym e.is ∙ alone in
            let long : length e.word ≡ length word = cc in
            let same : e.character ≡ c = cc in
            subst (λ x. StaysIn p content (backslash ∷ x) (encode_utf8 c)) (same_front e.word e.rest word e.parts long)
            (subst (λ d. StaysIn p content (backslash ∷ e.word) (encode_utf8 d)) same e.stays)
      ]

  pub script_stays : (text : List ℕ) → IsUtf8 text → StaysIn p content (string_encoding Script quotes text) text
  script_stays text utf8 = script_encoding_reads (string_keeps reads.string Script (λ c kept. grind (arith, nat_tests))) escape_stays text utf8

pub script_single_reads : (content : Content) → ReadsScript place.ScriptSingle single_quote quotes.Single content
unfolding consume
script_single_reads content = record {
  string = record { bytes = λ b. refl; quote = refl; high = λ b high. grind (arith, nat_tests); one = λ b. refl; end = refl };
  within = λ word b. refl;
}

pub script_double_reads : (content : Content) → ReadsScript place.ScriptDouble double_quote quotes.Double content
unfolding consume
script_double_reads content = record {
  string = record { bytes = λ b. refl; quote = refl; high = λ b high. grind (arith, nat_tests); one = λ b. refl; end = refl };
  within = λ word b. refl;
}

-- ---- a string literal in the code of a script

literal_begins : (element : OpenElement) (templates : ℕ) → is_script element ≡ true →
    consume (at (InCode code.Plain) (record { element = element; templates = templates })) double_quote
    ≡ goes (In place.ScriptDouble) (record { element = element; templates = templates }) (StringStart ∷ [])
unfolding consume
literal_begins element.Script templates is = refl
literal_begins other templates is = absurd (false≢true is)

-- what the encoder writes between two `"` is the literal of the text, behind which the code goes on as before it
pub literal_passes : (content : Content) (text : List ℕ) → is_script content.element ≡ true → IsUtf8 text →
    Passes (at (InCode code.Plain) content) (double_quote ∷ (string_encoding Script quotes.Double text ++ double_quote ∷ []))
    (StringStart ∷ (map (read_byte place.ScriptDouble) text ++ StringEnd ∷ [])) (at (InCode code.Plain) content)
literal_passes content text is utf8 =
    let reads = script_double_reads content in
    passes_byte (literal_begins content.element content.templates is)
    (passes_both (script_stays reads text utf8) (passes_one (StringEnd ∷ []) (reads.string.bytes double_quote)))

-- ---- JSON in a data block

not_true : (t : Bool) → not t ≡ true → t ≡ false
not_true false apart = refl
not_true true apart = absurd (false≢true apart)

json_begins : (element : OpenElement) (templates b : ℕ) → is_script element ≡ true → not (b == less_than) ≡ true →
    consume (at (InCode code.Json) (record { element = element; templates = templates })) b
    ≡ json_byte (if is_json_space b then code.Json else code.JsonRest) (record { element = element; templates = templates }) b
unfolding consume
json_begins element.Script templates b is apart = rw (not_true (b == less_than) apart) refl
json_begins other templates b is apart = absurd (false≢true is)

json_stays : (element : OpenElement) (templates b : ℕ) → is_script element ≡ true → not (b == less_than) ≡ true →
    consume (at (InCode code.JsonRest) (record { element = element; templates = templates })) b
    ≡ json_byte code.JsonRest (record { element = element; templates = templates }) b
unfolding consume
json_stays element.Script templates b is apart = rw (not_true (b == less_than) apart) refl
json_stays other templates b is apart = absurd (false≢true is)

-- bytes without a `<` are characters
json_goes_on : (content : Content) (bytes : List ℕ) → is_script content.element ≡ true → list_all (λ b. not (b == less_than)) bytes ≡ true →
    Passes (at (InCode code.JsonRest) content) bytes (map (read_byte place.Text) bytes) (at (InCode code.JsonRest) content)
json_goes_on content [] is apart = passes_none
json_goes_on content (b ∷ bytes) is apart =
    let parts = and_parts (not (b == less_than)) (list_all (λ b. not (b == less_than)) bytes) apart in
    passes_byte (json_stays content.element content.templates b is parts.0) (json_goes_on content bytes is parts.1)

-- and where they are not white space alone, no slot follows them
pub json_passes : (content : Content) (bytes : List ℕ) → is_script content.element ≡ true → list_all (λ b. not (b == less_than)) bytes ≡ true →
    list_all is_json_space bytes ≡ false →
    Passes (at (InCode code.Json) content) bytes (map (read_byte place.Text) bytes) (at (InCode code.JsonRest) content)
json_passes content [] is apart some = absurd (false≢true (sym some))
json_passes content (b ∷ bytes) is apart some =
    let parts = and_parts (not (b == less_than)) (list_all (λ b. not (b == less_than)) bytes) apart in
    let here = json_begins content.element content.templates b is parts.0 in
    elim (cases_Bool (is_json_space b)) [
      | inl blank ↦ passes_byte (rw blank at here) (json_passes content bytes is parts.1 (rw blank at some))
      | inr other ↦ passes_byte (rw other at here) (json_goes_on content bytes is parts.1)
    ]
