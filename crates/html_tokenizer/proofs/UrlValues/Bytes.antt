-- What a byte does where the value is of URLs.
use Rattle.std.proofs.Common.{ℕ, ◌≡◌, Bool, true, false, [], ◌==◌, refl, ap, sym, subst, ⊎_elim}
use Rattle.std.proofs.lemmas.Bool.{cases_Bool, false≢true, or_right}
use Rattle.hesc_specs.specs.Text.Ascii.{double_quote, equals_sign, greater_than, single_quote}
use Rattle.html_tokenizer.specs.declared.elements.Content.{Content}
use Rattle.html_tokenizer.specs.declared.slot_place.SlotPlace.{SlotPlace}
use Rattle.html_tokenizer.specs.declared.slot_place.SlotPlace.TheVariants.{DoubleQuoted, SingleQuoted, Unquoted}
use Rattle.html_tokenizer.specs.Tokenizer.Attributes.ListParts.{is_list_mark}
use Rattle.html_tokenizer.specs.Tokenizer.States.{Attribute, BeforeValue, In, State, Tokenizer, Within}
use Rattle.html_tokenizer.specs.Tokenizer.Tags.{is_space}
use Rattle.html_tokenizer.specs.Tokenizer.Tokenization.{byte_in, consume}
use Rattle.html_tokenizer.specs.Tokenizer.Transitions.{Transition}
use Rattle.html_tokenizer.specs.Tokenizer.Values.{before_value_byte, unquoted_byte}
use Rattle.html_tokenizer.specs.UrlValues.{begins_value, is_of_urls}
use Rattle.html_tokenizer.proofs.UrlValues.Attributes.{before_itself, is_going, is_listed}
use Rattle.html_tokenizer.proofs.UrlValues.Places.{is_value_place}
use Rattle.html_tokenizer.proofs.UrlValues.Following.{StaysAt, Steps, in_value, same_place, unquoted_follows, value_follows, within_follows}

-- a state of the value at this place, or before it
abbrev pub is_at : SlotPlace → State → Bool
is_at Unquoted BeforeValue = true
is_at p s = in_value p s

-- a state in which a URL may be open
abbrev pub may_hold_url : State → Bool
may_hold_url BeforeValue = true
may_hold_url (In p) = is_value_place p
may_hold_url (Within p word) = is_value_place p
may_hold_url other = false

-- where the value at a place begins
abbrev pub start_state : SlotPlace → State
start_state Unquoted = BeforeValue
start_state p = In p

abbrev StepsFrom : Attribute → ℕ → Transition → Type 0
StepsFrom attribute b x = Steps (is_listed attribute) (is_going attribute) b x.next.state x.next.attribute

-- what a byte does before a value
pub data Begins (attribute : Attribute) (b : ℕ) (x : Transition) : Type 0 where
  starts : (q : SlotPlace) → is_value_place q ≡ true → begins_value q b ≡ true → x.next.state ≡ start_state q → x.next.attribute ≡ attribute → x.actions ≡ [] →
      Begins attribute b x
  unquoted : StaysAt Unquoted b x.next.state → StepsFrom attribute b x → Begins attribute b x

begins : (content : Content) (attribute : Attribute) (b : ℕ) → is_of_urls attribute ≡ true →
    is_of_urls (before_value_byte content attribute b).next.attribute ≡ true → Begins attribute b (before_value_byte content attribute b)
begins content attribute b url is =
    ⊎_elim
    (λ (space : is_space b ≡ true). starts Unquoted refl (or_right (b == equals_sign) (is_space b) space) (rw space refl) (rw space refl) (rw space refl))
    (λ (no_space : is_space b ≡ false).
    ⊎_elim
    (λ (mark : (b == double_quote) ≡ true). starts DoubleQuoted refl mark (rw (no_space, mark) refl) (rw (no_space, mark) refl) (rw (no_space, mark) refl))
    (λ (no_double : (b == double_quote) ≡ false).
    ⊎_elim
    (λ (mark : (b == single_quote) ≡ true).
    starts SingleQuoted refl mark (rw (no_space, no_double, mark) refl) (rw (no_space, no_double, mark) refl) (rw (no_space, no_double, mark) refl))
    (λ (no_single : (b == single_quote) ≡ false).
    ⊎_elim
    (λ (greater : (b == greater_than) ≡ true). absurd (false≢true (rw (no_space, no_double, no_single, greater) at is)))
    (λ (no_greater : (b == greater_than) ≡ false).
    let same : before_value_byte content attribute b ≡ unquoted_byte content attribute b = rw (no_space, no_double, no_single, no_greater) refl in
    let goes : is_of_urls (unquoted_byte content attribute b).next.attribute ≡ true = subst (λ (x : Transition). is_of_urls x.next.attribute ≡ true) same is in
    let follows = unquoted_follows content attribute b (before_itself attribute url) no_space no_greater in
    unquoted (subst (λ (x : Transition). StaysAt Unquoted b x.next.state) (sym same) (follows.stays goes))
    (subst (StepsFrom attribute b) (sym same) (follows.steps goes)))
    (cases_Bool (b == greater_than)))
    (cases_Bool (b == single_quote)))
    (cases_Bool (b == double_quote)))
    (cases_Bool (is_space b))

-- the byte begins a value, or it stays at its place
pub data OpenUrl (s : State) (attribute : Attribute) (b : ℕ) (x : Transition) : Type 0 where
  before : s ≡ BeforeValue → Begins attribute b x → OpenUrl s attribute b x
  within : (p : SlotPlace) → is_value_place p ≡ true → in_value p s ≡ true → StaysAt p b x.next.state → StepsFrom attribute b x → OpenUrl s attribute b x

byte_in_open : (s : State) (content : Content) (attribute : Attribute) (b : ℕ) → is_of_urls attribute ≡ true → may_hold_url s ≡ true →
    is_of_urls (byte_in s content attribute b).next.attribute ≡ true → OpenUrl s attribute b (byte_in s content attribute b)
byte_in_open BeforeValue content attribute b url may is = before refl (begins content attribute b url is)
byte_in_open (In p) content attribute b url may is =
    let follows = value_follows p content attribute b may (before_itself attribute url) in within p may (same_place p) (follows.stays is) (follows.steps is)
byte_in_open (Within p word) content attribute b url may is =
    let follows = within_follows p content attribute word b may (before_itself attribute url) in within p may (same_place p) (follows.stays is) (follows.steps is)
byte_in_open other content attribute b url may is = absurd (false≢true may)

-- where the value is of URLs before and after the byte
pub stays_open : (t : Tokenizer) (b : ℕ) → is_of_urls t.attribute ≡ true → may_hold_url t.state ≡ true →
    is_of_urls (consume t b).next.attribute ≡ true → OpenUrl t.state t.attribute b (consume t b)
unfolding consume
stays_open t b url may is = byte_in_open t.state t.content t.attribute b url may is

-- it is a list as before; a slot may stand in it only where one might before, or behind a byte that cuts it
pub record Class (before : Attribute) (b : ℕ) (after : Attribute) : Type 0 where
  pub same : is_listed after ≡ is_listed before
  pub goes : is_going after ≡ true → is_list_mark b ≡ false → is_going before ≡ true

begins_class : {attribute : Attribute} {b : ℕ} {x : Transition} → Begins attribute b x → Class attribute b x.next.attribute
begins_class (starts q place mark next is actions) = record { same = ap is_listed is; goes = λ going none. subst (λ a. is_going a ≡ true) is going }
begins_class (unquoted stays steps) = record { same = steps.same; goes = steps.goes }

pub class_next : {s : State} {attribute : Attribute} {b : ℕ} {x : Transition} → OpenUrl s attribute b x → Class attribute b x.next.attribute
class_next (before here begins) = begins_class begins
class_next (within p place inside stays steps) = record { same = steps.same; goes = steps.goes }
