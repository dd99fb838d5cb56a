-- The actions that begin an attribute, and a byte at which none begins: apart from URLs, and at the end of one.
use Rattle.std.proofs.Common.{ℕ, ◌≡◌, Bool, true, false, List, [], ◌∷◌, ◌++◌, map, refl, ap, ◌∙◌, sym, arith}
use Rattle.std.specs.List.{list_any}
use Rattle.std.proofs.lemmas.Bool.{false≢true, or_parts}
use Rattle.std.proofs.lemmas.List.Folds.{list_any-append}
use Rattle.html_tokenizer.specs.declared.slot_place.SlotPlace.{SlotPlace}
use Rattle.html_tokenizer.specs.declared.slot_place.SlotPlace.TheVariants.{Text, DoubleQuoted, SingleQuoted, Unquoted}
use Rattle.html_tokenizer.specs.Tokenizer.Actions.{Action, NewAttribute, StringEnd, StringStart, ValueByte, read_byte}
use Rattle.html_tokenizer.specs.UrlValues.{is_of_urls, value_bytes}
use Rattle.html_tokenizer.proofs.UrlValues.Attributes.{before_itself}
use Rattle.html_tokenizer.proofs.UrlValues.Places.{is_value_place}
use Rattle.html_tokenizer.specs.declared.elements.Content.{Content}
use Rattle.html_tokenizer.specs.Tokenizer.States.{Attribute, BeforeName, BeforeValue, In, State, Tokenizer, Within}
use Rattle.html_tokenizer.specs.Tokenizer.Tags.{before_name_byte, first_name_byte}
use Rattle.html_tokenizer.specs.Tokenizer.Tokenization.{byte_in, consume}
use Rattle.html_tokenizer.specs.Tokenizer.Transitions.{Transition}
use Rattle.html_tokenizer.specs.Tokenizer.Values.{before_value_byte}
use Rattle.html_tokenizer.proofs.UrlValues.Bytes.{may_hold_url}
use Rattle.html_tokenizer.proofs.UrlValues.Following.{value_follows, within_follows}
use Rattle.html_tokenizer.proofs.UrlValues.Names.{content_unnamed, is_named, opens_no_url, opens_unnamed}
use Rattle.html_tokenizer.proofs.UrlValues.Opening.AllStates.{others_open_none}
use Rattle.html_tokenizer.proofs.UrlValues.Opening.Markup.{OpensNone, first_name_holds_none, in_tag_holds_none}
use Rattle.html_tokenizer.proofs.UrlValues.Slots.Tame.{IsTame}

abbrev pub is_new : Action → Bool
is_new NewAttribute = true
is_new other = false

-- no attribute begins
abbrev pub BeginsNone : List Action → Type 0
BeginsNone actions = list_any is_new actions ≡ false

pub neither_begins : (first second : List Action) → BeginsNone (first ++ second) → BeginsNone first × BeginsNone second
neither_begins first second none = or_parts (list_any is_new first) (list_any is_new second) (sym (list_any-append is_new first second) ∙ none)

pub value_bytes-append : (first second : List Action) → value_bytes (first ++ second) ≡ value_bytes first ++ value_bytes second
value_bytes-append [] second = refl
value_bytes-append (ValueByte b ∷ first) second = ap (λ more. b ∷ more) (value_bytes-append first second)
value_bytes-append (other ∷ first) second = value_bytes-append first second

-- ---- the bytes of a text

pub value_bytes-map : (added : List ℕ) → value_bytes (map ValueByte added) ≡ added
value_bytes-map [] = refl
value_bytes-map (b ∷ added) = ap (λ more. b ∷ more) (value_bytes-map added)

byte_begins_none : (p : SlotPlace) (b : ℕ) → is_new (read_byte p b) ≡ false
byte_begins_none Text b = refl
byte_begins_none other b = refl

pub text_begins_none : (p : SlotPlace) (text : List ℕ) → BeginsNone (map (read_byte p) text)
text_begins_none p [] = refl
text_begins_none p (b ∷ text) = rw (byte_begins_none p b) (text_begins_none p text)

-- and of a string literal
pub literal_begins_none : (p : SlotPlace) (text : List ℕ) → BeginsNone (StringStart ∷ (map (read_byte p) text ++ StringEnd ∷ []))
literal_begins_none p text = rw (list_any-append is_new (map (read_byte p) text) (StringEnd ∷ []), text_begins_none p text) refl

pub text_in_value : (p : SlotPlace) (text : List ℕ) → is_value_place p ≡ true → value_bytes (map (read_byte p) text) ≡ text
text_in_value DoubleQuoted text place = value_bytes-map text
text_in_value SingleQuoted text place = value_bytes-map text
text_in_value Unquoted text place = value_bytes-map text
text_in_value other text place = absurd (false≢true place)

-- ---- a byte at which no attribute begins

-- no value of URLs is open, nor a name, after which one may open
pub record IsApart (t : Tokenizer) : Type 0 where
  pub no_url : is_of_urls t.attribute ≡ false
  pub unnamed : is_named t.state ≡ false

-- ---- apart from URLs

-- a name begins with an attribute
name_begins : (content : Content) (b : ℕ) → is_named (before_name_byte content b).next.state ≡ list_any is_new (before_name_byte content b).actions
name_begins content b = grind (arith, content_unnamed content.element)

both_apart : (x : Transition) → OpensNone x → IsApart x.next
both_apart x none = record {
  no_url = opens_no_url x.next.state x.next.attribute none;
  unnamed = opens_unnamed x.next.state x.next.attribute none;
}

byte_in_apart : (s : State) (content : Content) (attribute : Attribute) (b : ℕ) → is_named s ≡ false → is_of_urls attribute ≡ false →
    BeginsNone (byte_in s content attribute b).actions → IsApart (byte_in s content attribute b).next
byte_in_apart BeforeName content attribute b unnamed no_url none = record {
  no_url = in_tag_holds_none BeforeName content b (first_name_byte content b) (first_name_holds_none content b);
  unnamed = name_begins content b ∙ none;
}
byte_in_apart s content attribute b unnamed no_url none =
    both_apart (byte_in s content attribute b) (others_open_none s content attribute b unnamed no_url)

pub apart_next : (t : Tokenizer) (b : ℕ) → IsApart t → BeginsNone (consume t b).actions → IsApart (consume t b).next
unfolding consume
apart_next t b apart none = byte_in_apart t.state t.content t.attribute b apart.unnamed apart.no_url none

-- ---- where a URL ends

before_value_unnamed : (content : Content) (attribute : Attribute) (b : ℕ) → is_named (before_value_byte content attribute b).next.state ≡ false
before_value_unnamed content attribute b = grind arith

byte_in_unnamed : (s : State) (content : Content) (attribute : Attribute) (b : ℕ) → is_of_urls attribute ≡ true → may_hold_url s ≡ true →
    is_named (byte_in s content attribute b).next.state ≡ false
byte_in_unnamed BeforeValue content attribute b url may = before_value_unnamed content attribute b
byte_in_unnamed (In p) content attribute b url may = (value_follows p content attribute b may (before_itself attribute url)).unnamed
byte_in_unnamed (Within p word) content attribute b url may = (within_follows p content attribute word b may (before_itself attribute url)).unnamed
byte_in_unnamed other content attribute b url may = absurd (false≢true may)

pub apart_at_end : (t : Tokenizer) (b : ℕ) → is_of_urls t.attribute ≡ true → IsTame t → is_of_urls (consume t b).next.attribute ≡ false →
    IsApart (consume t b).next
unfolding consume
apart_at_end t b url tame ends = record { no_url = ends; unnamed = byte_in_unnamed t.state t.content t.attribute b url (tame url) }
