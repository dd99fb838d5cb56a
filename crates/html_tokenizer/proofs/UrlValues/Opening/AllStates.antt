-- A URL opens after the `=` of an attribute alone.
use Rattle.std.proofs.Common.{ℕ, ◌≡◌, Bool, true, false, List, [], ◌∷◌, ◌++◌, ◌==◌, inl, inr, codes, if◌then◌else◌, refl, ◌∙◌, sym, ⊎_elim, arith}
use Rattle.std.proofs.lemmas.Bool.{cases_Bool, eqb-true, true≢false}
use Rattle.hesc_specs.specs.Text.Ascii.{equals_sign, slash}
use Rattle.html_tokenizer.specs.declared.elements.Content.{Content}
use Rattle.html_tokenizer.specs.declared.elements.OpenElement.{OpenElement}
use Rattle.html_tokenizer.specs.declared.elements.OpenElement.TheVariants.{Script}
use Rattle.html_tokenizer.specs.Tokenizer.Actions.{read_byte, value_end}
use Rattle.html_tokenizer.specs.Tokenizer.Attributes.{raw_value, value_but_of, value_in, value_of, reference_read}
use Rattle.html_tokenizer.specs.Tokenizer.Elements.{beside}
use Rattle.html_tokenizer.specs.Tokenizer.States.{AfterName, AfterValue, Attribute, BeforeName, BeforeValue, CodeEndTag, CodeLess, CodeWord, EndTagName, EndTagOpen, In, InCode, Name, Ordinary, SelfClosing, State, StringLess, TagName, TagOpen, ValueEndTag, Within, Tokenizer, at_value}
use Rattle.html_tokenizer.specs.Tokenizer.Transitions.{Transition, moves}
use Rattle.html_tokenizer.specs.declared.slot_place.SlotPlace.TheVariants.{Text}
use Rattle.html_tokenizer.specs.Tokenizer.Attributes.{without_value}
use Rattle.html_tokenizer.specs.Tokenizer.Tags.{first_name_byte, in_tag, name_byte}
use Rattle.html_tokenizer.specs.Tokenizer.Tags.EndTags.{is_rcdata}
use Rattle.html_tokenizer.specs.Tokenizer.Tokenization.{byte_in, consume, value_byte}
use Rattle.html_tokenizer.specs.UrlValues.{is_of_urls, value_bytes}
use Rattle.html_tokenizer.proofs.UrlValues.Names.{is_named, opens_no_url}
use Rattle.html_tokenizer.proofs.UrlValues.Opening.Markup.{code_end_opens_none, code_less_opens_none, code_word_opens_none, in_code_opens_none, HoldsNone, OpensNone, closed_opens_none, end_name_opens_none, first_name_holds_none, held_opens_none, in_tag_holds_none, in_tag_opens_none, name_holds_none, tag_name_opens_none, tag_open_opens_none}
use Rattle.html_tokenizer.proofs.UrlValues.Opening.Values.{before_value_opens_none, reference_opens_none, string_less_opens_none, value_opens_none, within_opens_none}

-- a value that begins, after `=`
pub record Opens (b : ℕ) (x : Transition) : Type 0 where
  pub before_value : x.next.state ≡ BeforeValue
  pub equals : b ≡ equals_sign
  pub nothing : value_bytes x.actions ≡ []

-- after the next byte the state may be in the name of an attribute
abbrev pub may_be_named : State → Bool
may_be_named BeforeName = true
may_be_named s = is_named s

pub others_open_none : (s : State) (content : Content) (attribute : Attribute) (b : ℕ) → may_be_named s ≡ false → is_of_urls attribute ≡ false →
    OpensNone (byte_in s content attribute b)
others_open_none (In p) content attribute b name is = value_opens_none p content attribute b is
others_open_none (Within p word) content attribute b name is = within_opens_none p content (reference_read attribute) word b (reference_opens_none attribute is)
others_open_none (StringLess p) content attribute b name is = string_less_opens_none p content attribute b is
others_open_none TagOpen content attribute b name is =
    elim (cases_Bool (b == slash)) [
      | inl solidus ↦ rw solidus refl
      | inr other ↦ rw other (grind (arith, value_opens_none Text content Ordinary b refl, tag_open_opens_none content b))
    ]
others_open_none EndTagOpen content attribute b name is =
    elim (cases_Bool (is_rcdata content.element)) [
      | inl text ↦ rw text (grind (arith, value_opens_none Text content Ordinary b refl))
      | inr markup ↦ rw markup (grind arith)
    ]
others_open_none (TagName word) content attribute b name is = tag_name_opens_none content word b
others_open_none BeforeName content attribute b name is = absurd (true≢false name)
others_open_none AfterValue content attribute b name is = in_tag_opens_none BeforeName content b _ refl refl
others_open_none (EndTagName word) content attribute b name is = end_name_opens_none content word b
others_open_none (ValueEndTag p word) content attribute b name is =
    let read : Attribute = reference_read attribute in
    let none : is_of_urls read ≡ false = reference_opens_none attribute is in
    held_opens_none content word (value_end p) (at_value (ValueEndTag p (word ++ b ∷ [])) content read) (read_byte p)
    (value_byte p content read b) b none (value_opens_none p content read b none)
others_open_none (Name word) content attribute b name is = absurd (true≢false name)
others_open_none (AfterName word) content attribute b name is = absurd (true≢false name)
others_open_none BeforeValue content attribute b name is = before_value_opens_none content attribute b is
others_open_none SelfClosing content attribute b name is = grind (arith, closed_opens_none (beside content.element) content)
others_open_none (InCode kind) content attribute b name is = in_code_opens_none kind content b
others_open_none (CodeLess kind) content attribute b name is = code_less_opens_none kind content b
others_open_none (CodeEndTag kind word) content attribute b name is = code_end_opens_none kind content word b
others_open_none (CodeWord kind word) content attribute b name is = code_word_opens_none kind content word b
others_open_none other content attribute b name is = grind arith

raw_begins : (content : Content) (name : List ℕ) → is_of_urls (raw_value content name).attribute ≡ true → (raw_value content name).state ≡ BeforeValue
raw_begins content name is = grind arith

but_of_begins : (barred : List ℕ) (content : Content) (name : List ℕ) → (value_but_of barred content name).state ≡ BeforeValue
but_of_begins barred content name = grind arith

value_begins : (element : OpenElement) (content : Content) (name : List ℕ) → is_of_urls (value_in element content name).attribute ≡ true →
    (value_in element content name).state ≡ BeforeValue
value_begins Script content name is = grind (arith, but_of_begins (codes "for") content name)
value_begins other content name is =
    grind (arith, but_of_begins (codes "for") content name, but_of_begins (codes "type") content name, raw_begins content name)

name_opens : (content : Content) (name : List ℕ) (b : ℕ) (other : Transition) → HoldsNone other →
    is_of_urls (if b == equals_sign then moves (value_of content name) [] else other).next.attribute ≡ true →
    Opens b (if b == equals_sign then moves (value_of content name) [] else other)
name_opens content name b other none is =
    ⊎_elim
    (λ (equals : (b == equals_sign) ≡ true). record {
      before_value = rw equals (value_begins content.element content name (rw equals at is));
      equals = eqb-true b equals_sign equals;
      nothing = rw equals refl;
    })
    (λ (no : (b == equals_sign) ≡ false). absurd (true≢false (sym (rw no at is) ∙ none)))
    (cases_Bool (b == equals_sign))

pub opens : (s : State) (content : Content) (attribute : Attribute) (b : ℕ) → is_of_urls attribute ≡ false →
    is_of_urls (byte_in s content attribute b).next.attribute ≡ true → Opens b (byte_in s content attribute b)
opens (Name name) content attribute b none is =
    let other : Transition = name_byte content name b in
    name_opens content name b (in_tag (AfterName name) content b other) (in_tag_holds_none (AfterName name) content b other (name_holds_none content name b)) is
opens (AfterName name) content attribute b none is =
    let here : Content = without_value content name in
    let other : Transition = first_name_byte here b in
    name_opens content name b (in_tag (AfterName name) content b other) (in_tag_holds_none (AfterName name) content b other (first_name_holds_none here b)) is
opens BeforeName content attribute b none is =
    absurd (true≢false (sym is ∙ in_tag_holds_none BeforeName content b (first_name_byte content b) (first_name_holds_none content b)))
opens other content attribute b none is =
    absurd (true≢false (sym is ∙ opens_no_url (byte_in other content attribute b).next.state (byte_in other content attribute b).next.attribute (others_open_none other content attribute b refl none)))

-- where no URL is open, one opens at `=` alone, and as yet without a byte
pub opens_at_equals : (t : Tokenizer) (b : ℕ) → is_of_urls t.attribute ≡ false → is_of_urls (consume t b).next.attribute ≡ true → Opens b (consume t b)
unfolding consume
opens_at_equals t b none is = opens t.state t.content t.attribute b none is
