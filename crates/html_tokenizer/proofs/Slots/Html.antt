-- What an HTML encoder writes stays in the value, and is read as the text.
use Rattle.std.proofs.Common.{ℕ, ◌≡◌, ◌≢◌, true, false, List, [], ◌∷◌, ◌++◌, ◌==◌, Some, length, map, flat_map, encode_utf8, refl, subst, sym, ap, ◌∙◌, append_assoc, append-nil, arith, ne_eqb}
use Rattle.std.proofs.lemmas.Bool.{and_parts}
use Rattle.std.proofs.lemmas.Bool.Decides.{nat_tests}
use Rattle.hesc_specs.specs.Text.Ascii.{double_quote, ampersand, single_quote, semicolon, less_than, greater_than}
use Rattle.hesc_specs.specs.Text.Classes.{in_class, IsHtml}
use Rattle.hesc_specs.specs.Html.{encoding}
use Rattle.hesc_specs.specs.Text.Nul.{nul}
use Rattle.hesc_specs.specs.declared.classes.Class.{Class}
use Rattle.hesc_specs.specs.declared.classes.Class.TheVariants as class
use Rattle.hesc_specs.proofs.Html.Images.{in_class-ampersand, kept_is_other}
use Rattle.hesc_grammars.specs.References.{body_character}
use Rattle.hesc_grammars.proofs.HtmlPieces.{ReadsPieces, read_image, encoding_reads, image_reads}
use Rattle.hesc_grammars.proofs.ReadBacks.{read_back-text, read_back-nul}
use Rattle.html_tokenizer.specs.declared.slot_place.SlotPlace.{SlotPlace}
use Rattle.html_tokenizer.specs.declared.slot_place.SlotPlace.TheVariants as place
use Rattle.html_tokenizer.specs.declared.elements.Content.{Content}
use Rattle.html_tokenizer.specs.Tokenizer.Actions.{read_byte}
use Rattle.html_tokenizer.specs.Tokenizer.Attributes.{may_end_raw, reference_read, value_byte_read}
use Rattle.html_tokenizer.specs.Tokenizer.States.{Attribute, FixedRawUrl, State, In, RawUrl, Within, BeforeValue, Ordinary, at_value}
use Rattle.html_tokenizer.specs.Tokenizer.Tokenization.{consume, value_byte}
use Rattle.html_tokenizer.specs.Tokenizer.Transitions.{moves}
use Rattle.html_tokenizer.specs.Tokenizer.Values.{character_read}
use Rattle.html_tokenizer.specs.Tokenizer.Values.References.{behind_reference, behind_word, goes_on, reference_byte}
use Rattle.html_tokenizer.specs.Tokenizer.Stretches.{leaves_value}
use Rattle.html_tokenizer.specs.Tokenizer.Tags.{is_space}
use Rattle.html_tokenizer.proofs.Stretches.{byte_kept}
use Rattle.html_tokenizer.proofs.KnownReferences.{IsKnown, is_held, known}
use Rattle.html_tokenizer.proofs.Passing.{Passes, passes_none, passes_both, passes_byte, passes_one, passes_texts}

-- no byte of its value and no reference changes the attribute
pub record Remains (attribute : Attribute) : Type 0 where
  pub bytes : (b : ℕ) → value_byte_read attribute b ≡ attribute
  pub references : reference_read attribute ≡ attribute
  pub behind : (word : List ℕ) → behind_reference word attribute ≡ attribute

pub ordinary_remains : Remains Ordinary
ordinary_remains = record { bytes = λ b. refl; references = refl; behind = λ word. refl }

-- the bytes are read as the text, from the state in which a value begins or goes on
abbrev pub Stays : Attribute → SlotPlace → State → Content → List ℕ → List ℕ → Type 0
Stays attribute p state content bytes text =
    Passes (at_value state content attribute) bytes (map (read_byte p) text) (at_value (In p) content attribute)

-- ---- references

pub record ReadsReferences (attribute : Attribute) (state : State) (p : SlotPlace) (content : Content) : Type 0 where
  pub begins : consume (at_value state content attribute) ampersand ≡ moves (at_value (Within p []) content attribute) []
  pub within : (word : List ℕ) (b : ℕ) → consume (at_value (Within p word) content attribute) b
      ≡ reference_byte p content attribute word b (value_byte p content (behind_word word attribute) b)

module _ {attribute : Attribute} {state : State} {p : SlotPlace} {content : Content} (reads : ReadsReferences attribute state p content)
    (behind : (word : List ℕ) → behind_reference word attribute ≡ attribute) where
  -- the body of a reference is read on
  passes_body : (word body : List ℕ) → is_held word body ≡ true →
      Passes (at_value (Within p word) content attribute) body [] (at_value (Within p (word ++ body)) content attribute)
  passes_body word [] held = rw (append-nil word) passes_none
  passes_body word (b ∷ body) held =
      let parts = and_parts (goes_on word b) (is_held (word ++ b ∷ []) body) held in
      let is : consume (at_value (Within p word) content attribute) b ≡ moves (at_value (Within p (word ++ b ∷ [])) content attribute) [] =
      reads.within word b ∙ rw parts.0 refl in
      rw (sym (append_assoc word (b ∷ []) body)) (passes_byte is (passes_body (word ++ b ∷ []) body parts.1))

  -- a reference whose body stands for a character
  pub reference_stays : (body : List ℕ) (c : ℕ) → body_character body ≡ Some c →
      Stays attribute p state content (ampersand ∷ (body ++ semicolon ∷ [])) (encode_utf8 c)
  reference_stays body c is =
      let reference : IsKnown body c = known body c is in
      let ends : consume (at_value (Within p body) content attribute) semicolon ≡ moves (at_value (In p) content attribute) (map (read_byte p) (encode_utf8 c)) =
      reads.within body semicolon ∙ reference.read p content attribute (value_byte p content (behind_word body attribute) semicolon)
      ∙ ap (λ a. character_read p content a (Some c)) (behind body) in
      passes_byte reads.begins
      (passes_both (passes_body [] body reference.held) (passes_one (map (read_byte p) (encode_utf8 c)) ends))

  -- where each byte outside of the class is kept, so is what the encoder writes
  pieces_stay : {class : Class} → IsHtml class → ((b : ℕ) → in_class class b ≡ false →
      consume (at_value state content attribute) b ≡ moves (at_value (In p) content attribute) (read_byte p b ∷ [])) →
      ReadsPieces class (Stays attribute p state content)
  pieces_stay html kept = record {
    html = html;
    reference = λ body c none is. reference_stays body c is;
    kept = λ b outside. passes_one (read_byte p b ∷ []) (kept b outside);
  }

-- ---- text and values in quotes, which a mark ends

pub record ReadsMarked (attribute : Attribute) (p : SlotPlace) (content : Content) (mark : ℕ) : Type 0 where
  pub references : ReadsReferences attribute (In p) p content
  pub behind : (word : List ℕ) → behind_reference word attribute ≡ attribute
  pub no_reference : (ampersand == mark) ≡ false
  pub kept : (b : ℕ) → (b == mark) ≡ false → (b == ampersand) ≡ false → may_end_raw attribute b ≡ false →
      consume (at_value (In p) content attribute) b ≡ moves (at_value (In p) content attribute) (read_byte p b ∷ [])

-- no byte but a `<` may
pub ends_no_raw : (attribute : Attribute) (b : ℕ) → (b == less_than) ≡ false → may_end_raw attribute b ≡ false
ends_no_raw RawUrl b other = other
ends_no_raw FixedRawUrl b other = other
ends_no_raw attribute b other = refl

marked_stays : {attribute : Attribute} {p : SlotPlace} {content : Content} {mark : ℕ} → ReadsMarked attribute p content mark →
    (class : Class) → IsHtml class → in_class class mark ≡ true → in_class class less_than ≡ true → in_class class 0 ≡ false →
    (text : List ℕ) → Stays attribute p (In p) content (encoding class text) text
marked_stays {attribute} {p} {content} {mark} reads class html has less keeps text =
    let no : (b c : ℕ) → in_class class b ≡ false → in_class class c ≡ true → (b == c) ≡ false =
    λ b c kept replaced. ne_eqb b c (kept_is_other class b c kept replaced) in
    subst (Stays attribute p (In p) content (encoding class text)) (read_back-text class keeps text)
    (encoding_reads (pieces_stay reads.references reads.behind html
    (λ b kept. reads.kept b (no b mark kept has) (no b ampersand kept (in_class-ampersand class html)) (ends_no_raw attribute b (no b less_than kept less))))
    passes_none (λ first v second w. passes_texts (read_byte p) v w) text)

-- in a reference it is the same attribute
module _ {attribute : Attribute} (settled : reference_read attribute ≡ attribute) (content : Content) where
  read_within : (p : SlotPlace) (word : List ℕ) (b : ℕ) →
      reference_byte p content (reference_read attribute) word b (value_byte p content (behind_word word (reference_read attribute)) b)
      ≡ reference_byte p content attribute word b (value_byte p content (behind_word word attribute) b)
  read_within p word b = ap (λ a. reference_byte p content a word b (value_byte p content (behind_word word a) b)) settled

  text_references : ReadsReferences attribute (In place.Text) place.Text content
  unfolding consume
  text_references = record { begins = rw settled refl; within = read_within place.Text }

  pub double_references : ReadsReferences attribute (In place.DoubleQuoted) place.DoubleQuoted content
  unfolding consume
  double_references = record { begins = rw settled refl; within = read_within place.DoubleQuoted }

  pub single_references : ReadsReferences attribute (In place.SingleQuoted) place.SingleQuoted content
  unfolding consume
  single_references = record { begins = rw settled refl; within = read_within place.SingleQuoted }

  pub unquoted_references : ReadsReferences attribute (In place.Unquoted) place.Unquoted content
  unfolding consume
  unquoted_references = record { begins = rw settled refl; within = read_within place.Unquoted }

module _ {attribute : Attribute} (remains : Remains attribute) (content : Content) where
  pub text_reads : ReadsMarked attribute place.Text content less_than
  unfolding consume
  text_reads = record {
    references = text_references remains.references content;
    behind = remains.behind;
    no_reference = refl;
    kept = λ b no_mark no_reference no_end. rw (no_mark, no_reference, remains.bytes b) refl;
  }

  pub double_reads : ReadsMarked attribute place.DoubleQuoted content double_quote
  unfolding consume
  double_reads = record {
    references = double_references remains.references content;
    behind = remains.behind;
    no_reference = refl;
    kept = λ b no_mark no_reference no_end. rw (no_mark, no_reference, no_end, remains.bytes b) refl;
  }

  pub single_reads : ReadsMarked attribute place.SingleQuoted content single_quote
  unfolding consume
  single_reads = record {
    references = single_references remains.references content;
    behind = remains.behind;
    no_reference = refl;
    kept = λ b no_mark no_reference no_end. rw (no_mark, no_reference, no_end, remains.bytes b) refl;
  }

  pub double_stays_in : (text : List ℕ) → Stays attribute place.DoubleQuoted (In place.DoubleQuoted) content (encoding class.DoubleQuotedAttribute text) text
  double_stays_in text = marked_stays double_reads class.DoubleQuotedAttribute refl refl refl refl text

  pub single_stays_in : (text : List ℕ) → Stays attribute place.SingleQuoted (In place.SingleQuoted) content (encoding class.SingleQuotedAttribute text) text
  single_stays_in text = marked_stays single_reads class.SingleQuotedAttribute refl refl refl refl text

-- the same of an ordinary attribute
module _ (content : Content) (text : List ℕ) where
  pub text_stays : Stays Ordinary place.Text (In place.Text) content (encoding class.Text text) text
  text_stays = marked_stays (text_reads ordinary_remains content) class.Text refl refl refl refl text

  pub double_stays : Stays Ordinary place.DoubleQuoted (In place.DoubleQuoted) content (encoding class.DoubleQuotedAttribute text) text
  double_stays = double_stays_in ordinary_remains content text

  pub single_stays : Stays Ordinary place.SingleQuoted (In place.SingleQuoted) content (encoding class.SingleQuotedAttribute text) text
  single_stays = single_stays_in ordinary_remains content text

-- ---- values without quotes

-- a byte that neither ends the value nor begins something in it is kept, where a value begins or goes on
pub record ReadsUnquoted (state : State) (content : Content) : Type 0 where
  pub references : ReadsReferences Ordinary state place.Unquoted content
  pub kept : (b : ℕ) → leaves_value place.Unquoted b ≡ false →
      consume (at_value state content Ordinary) b ≡ moves (at_value (In place.Unquoted) content Ordinary) (read_byte place.Unquoted b ∷ [])

pub unquoted_reads : (content : Content) → ReadsUnquoted (In place.Unquoted) content
unquoted_reads content = record {
  references = unquoted_references ordinary_remains.references content;
  kept = λ b remains. byte_kept place.Unquoted content Ordinary b refl remains refl;
}

-- but for white space, quotes and `>` the first byte of a value without quotes is read as another one
pub first_as_other : (content : Content) (attribute : Attribute) (b : ℕ) → is_space b ≡ false → (b == double_quote) ≡ false →
    (b == single_quote) ≡ false → (b == greater_than) ≡ false →
    consume (at_value BeforeValue content attribute) b ≡ consume (at_value (In place.Unquoted) content attribute) b
unfolding consume
first_as_other content attribute b no_space no_double no_single no_greater = rw (no_space, no_double, no_single, no_greater) refl

pub first_reads : (content : Content) → ReadsUnquoted BeforeValue content
unfolding consume
first_reads content = record {
  references = record { begins = refl; within = λ word b. refl };
  kept = λ b remains.
      first_as_other content Ordinary b (grind (arith, nat_tests)) (grind (arith, nat_tests)) (grind (arith, nat_tests)) (grind (arith, nat_tests))
      ∙ byte_kept place.Unquoted content Ordinary b refl remains refl;
}

unquoted_pieces : {state : State} {content : Content} → ReadsUnquoted state content → ReadsPieces class.UnquotedAttribute (Stays Ordinary place.Unquoted state content)
unquoted_pieces reads = pieces_stay reads.references (λ word. refl) refl (λ b kept. reads.kept b (grind (arith, nat_tests)))

unquoted_images_stay : (content : Content) (text : List ℕ) →
    Stays Ordinary place.Unquoted (In place.Unquoted) content (encoding class.UnquotedAttribute text) (flat_map (read_image class.UnquotedAttribute) text)
unquoted_images_stay content text =
    encoding_reads (unquoted_pieces (unquoted_reads content)) passes_none (λ first v second w. passes_texts (read_byte place.Unquoted) v w) text

pub unquoted_stays : (content : Content) (text : List ℕ) →
    Stays Ordinary place.Unquoted (In place.Unquoted) content (encoding class.UnquotedAttribute text) (nul text)
unquoted_stays content text = rw (← read_back-nul class.UnquotedAttribute refl text) (unquoted_images_stay content text)

-- after `=` the first image begins the value
pub first_stays : (content : Content) (text : List ℕ) → length text ≢ 0 →
    Stays Ordinary place.Unquoted BeforeValue content (encoding class.UnquotedAttribute text) (nul text)
first_stays content [] full = absurd (full refl)
first_stays content (b ∷ text) full =
    rw (← read_back-nul class.UnquotedAttribute refl (b ∷ text))
    (passes_texts (read_byte place.Unquoted) (read_image class.UnquotedAttribute b) (flat_map (read_image class.UnquotedAttribute) text)
    (image_reads (unquoted_pieces (first_reads content)) b) (unquoted_images_stay content text))
