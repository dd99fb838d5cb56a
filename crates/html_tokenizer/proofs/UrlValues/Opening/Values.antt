-- No URL opens in text, in a string or in a value that is not of URLs.
use Rattle.std.proofs.Common.{ℕ, ◌≡◌, Bool, true, false, ◌==◌, if◌then◌else◌, List, [], ◌∷◌, Option, Some, None, ◌∙◌, refl, arith}
use Rattle.html_tokenizer.specs.UrlValues.{is_of_urls}
use Rattle.html_tokenizer.specs.declared.elements.Content.{Content}
use Rattle.html_tokenizer.specs.declared.states.Code.TheVariants as code
use Rattle.html_tokenizer.specs.declared.slot_place.SlotPlace.{SlotPlace}
use Rattle.html_tokenizer.specs.Tokenizer.Attributes.{content_after, reference_read, value_byte_read}
use Rattle.html_tokenizer.specs.Tokenizer.Code.{less_byte}
use Rattle.html_tokenizer.specs.Tokenizer.States.{AfterValue, Attribute, BeforeName, FixedRawUrl, FixedUrl, Link, Listed, Raw, RawUrl, Url}
use Rattle.html_tokenizer.specs.Tokenizer.Transitions.{Transition, goes, refuses}
use Rattle.html_tokenizer.specs.declared.slot_place.SlotPlace.TheVariants.{Text, DoubleQuoted, SingleQuoted, Unquoted, ScriptSingle, ScriptDouble, StyleSingle, StyleDouble}
use Rattle.hesc_specs.specs.Text.Ascii.{number_sign, semicolon}
use Rattle.hesc_grammars.specs.References.{body_character}
use Rattle.html_tokenizer.specs.Tokenizer.Code.Strings.{escape_or_more, string_less_byte, style_escape_byte}
use Rattle.html_tokenizer.specs.Tokenizer.Tags.{opened}
use Rattle.html_tokenizer.specs.Tokenizer.Tokenization.{value_byte, within_byte}
use Rattle.html_tokenizer.specs.Tokenizer.Values.{before_value_byte, character_read, ended}
use Rattle.html_tokenizer.specs.Tokenizer.Values.References.{behind_reference, behind_word, characters_read, goes_on, name_end, named_characters, number_end, reference_byte, reference_end, unnamed_end}
use Rattle.html_tokenizer.proofs.UrlValues.Attributes.{read_of_urls, word_of_urls}
use Rattle.html_tokenizer.proofs.UrlValues.Opening.Markup.{in_code_opens_none, OpensNone, opened_opens_none}

pub byte_opens_none : (attribute : Attribute) (b : ℕ) → is_of_urls attribute ≡ false → is_of_urls (value_byte_read attribute b) ≡ false
byte_opens_none Url b is = is
byte_opens_none (Listed part) b is = is
byte_opens_none Link b is = is
byte_opens_none FixedUrl b is = is
byte_opens_none RawUrl b is = is
byte_opens_none FixedRawUrl b is = is
byte_opens_none Raw b is = grind arith
byte_opens_none other b is = refl

pub reference_opens_none : (attribute : Attribute) → is_of_urls attribute ≡ false → is_of_urls (reference_read attribute) ≡ false
reference_opens_none Url is = is
reference_opens_none (Listed part) is = is
reference_opens_none Link is = is
reference_opens_none FixedUrl is = is
reference_opens_none RawUrl is = is
reference_opens_none FixedRawUrl is = is
reference_opens_none other is = refl

ended_opens_none : (content : Option Content) (next : Content → Transition) → ((inner : Content) → OpensNone (next inner)) →
    OpensNone (ended content next)
ended_opens_none None next each = refl
ended_opens_none (Some content) next each = each content

character_opens_none : (p : SlotPlace) (content : Content) (attribute : Attribute) (c : Option ℕ) → is_of_urls attribute ≡ false →
    OpensNone (character_read p content attribute c)
character_opens_none p content attribute None is = refl
character_opens_none p content attribute (Some c) is = is

characters_open_none : (p : SlotPlace) (content : Content) (attribute : Attribute) (found : Option (List ℕ)) (otherwise : Transition) → is_of_urls attribute ≡ false →
    OpensNone otherwise → OpensNone (characters_read p content attribute found otherwise)
characters_open_none p content attribute None otherwise is later = later
characters_open_none p content attribute (Some found) otherwise is later = is

pub value_opens_none : (p : SlotPlace) (content : Content) (attribute : Attribute) (b : ℕ) → is_of_urls attribute ≡ false →
    OpensNone (value_byte p content attribute b)
value_opens_none Text content attribute b is = grind (arith, byte_opens_none attribute b is, reference_opens_none attribute is)
value_opens_none DoubleQuoted content attribute b is =
    grind (arith, byte_opens_none attribute b is, reference_opens_none attribute is, ended_opens_none (content_after content attribute) (λ inner. goes AfterValue inner []) (λ inner. refl))
value_opens_none SingleQuoted content attribute b is =
    grind (arith, byte_opens_none attribute b is, reference_opens_none attribute is, ended_opens_none (content_after content attribute) (λ inner. goes AfterValue inner []) (λ inner. refl))
value_opens_none Unquoted content attribute b is =
    let at_space = ended_opens_none (content_after content attribute) (λ inner. goes BeforeName inner []) (λ inner. refl) in
    let at_greater = ended_opens_none (content_after content attribute) opened (λ inner. opened_opens_none inner) in
    grind (arith, byte_opens_none attribute b is, reference_opens_none attribute is, at_space, at_greater)
value_opens_none other content attribute b is = grind (arith, byte_opens_none attribute b is, reference_opens_none attribute is)

pub before_value_opens_none : (content : Content) (attribute : Attribute) (b : ℕ) → is_of_urls attribute ≡ false →
    OpensNone (before_value_byte content attribute b)
before_value_opens_none content attribute b is = grind (arith, byte_opens_none attribute b is, reference_opens_none attribute is)

unnamed_opens_none : (p : SlotPlace) (word : List ℕ) (b : ℕ) (again : Transition) → OpensNone again →
    OpensNone (unnamed_end p word b again)
unnamed_opens_none Text word b again later = grind arith
unnamed_opens_none other word b again later = grind arith

either_opens_none : (test : Bool) (x y : Transition) → OpensNone x → OpensNone y → OpensNone (if test then x else y)
either_opens_none true x y first second = first
either_opens_none false x y first second = second

reference_opens_none_after : (p : SlotPlace) (content : Content) (attribute : Attribute) (word : List ℕ) (b : ℕ) (again : Transition) →
    is_of_urls attribute ≡ false → OpensNone again → OpensNone (reference_byte p content attribute word b again)
reference_opens_none_after p content attribute [] b again is later = grind arith
reference_opens_none_after p content attribute (first ∷ word) b again is later =
    let unnamed = unnamed_opens_none p (first ∷ word) b again later in
    let read : Attribute = behind_reference (first ∷ word) attribute in
    let none : is_of_urls read ≡ false = read_of_urls (first ∷ word) attribute ∙ is in
    let number = character_opens_none p content read (body_character (first ∷ word)) none in
    let name = characters_open_none p content read (named_characters (first ∷ word)) (unnamed_end p (first ∷ word) b again) none unnamed in
    either_opens_none (goes_on (first ∷ word) b) _ (reference_end p content attribute (first ∷ word) b again)
    is
    (either_opens_none (first == number_sign) (number_end p content attribute (first ∷ word) b) (name_end p content attribute (first ∷ word) b again)
    (either_opens_none (b == semicolon) _ refuses number refl)
    (either_opens_none (b == semicolon) _ (unnamed_end p (first ∷ word) b again) name unnamed))

escape_opens_none : (p : SlotPlace) (content : Content) (attribute : Attribute) (word : List ℕ) (b : ℕ) (c : Option ℕ) → is_of_urls attribute ≡ false →
    OpensNone (escape_or_more p content attribute word b c)
escape_opens_none p content attribute word b None is = grind (arith, in_code_opens_none code.Opaque content b)
escape_opens_none p content attribute word b (Some c) is = is

style_escape_opens_none : (p : SlotPlace) (content : Content) (attribute : Attribute) (word : List ℕ) (b : ℕ) (again : Transition) → is_of_urls attribute ≡ false →
    OpensNone again → OpensNone (style_escape_byte p content attribute word b again)
style_escape_opens_none p content attribute [] b again is later = grind (arith, in_code_opens_none code.Opaque content b)
style_escape_opens_none p content attribute (d ∷ digits) b again is later = grind arith

pub within_opens_none : (p : SlotPlace) (content : Content) (attribute : Attribute) (word : List ℕ) (b : ℕ) → is_of_urls attribute ≡ false →
    OpensNone (within_byte p content attribute word b)
within_opens_none ScriptSingle content attribute word b is = escape_opens_none ScriptSingle content attribute word b _ is
within_opens_none ScriptDouble content attribute word b is = escape_opens_none ScriptDouble content attribute word b _ is
within_opens_none StyleSingle content attribute word b is = style_escape_opens_none StyleSingle content attribute word b _ is (value_opens_none StyleSingle content attribute b is)
within_opens_none StyleDouble content attribute word b is = style_escape_opens_none StyleDouble content attribute word b _ is (value_opens_none StyleDouble content attribute b is)
within_opens_none other content attribute word b is = reference_opens_none_after other content attribute word b _ is (value_opens_none other content (behind_word word attribute) b (word_of_urls word attribute ∙ is))

pub string_less_opens_none : (p : SlotPlace) (content : Content) (attribute : Attribute) (b : ℕ) → is_of_urls attribute ≡ false →
    OpensNone (string_less_byte p content attribute (value_byte p content attribute b) b)
string_less_opens_none p content attribute b is =
    let less : OpensNone (less_byte code.Opaque content b) = grind (arith, in_code_opens_none code.Opaque content b) in
    grind (arith, less, reference_opens_none attribute is, value_opens_none p content attribute b is)
