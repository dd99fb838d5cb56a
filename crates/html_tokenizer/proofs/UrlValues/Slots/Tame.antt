-- Where a URL may be open, and that its value holds nothing before its first byte.
use Rattle.std.proofs.Common.{ℕ, ◌≡◌, Bool, true, false, if◌then◌else◌, List, [], ◌∷◌, ◌++◌, refl, ◌∙◌, sym, subst, ⊎_elim}
use Rattle.std.proofs.lemmas.Bool.{cases_Bool, false≢true}
use Rattle.html_tokenizer.specs.declared.slot_place.SlotPlace.{SlotPlace}
use Rattle.html_tokenizer.specs.declared.slot_place.SlotPlace.TheVariants.{Text, DoubleQuoted, SingleQuoted, Unquoted, ScriptSingle, ScriptDouble, StyleSingle, StyleDouble}
use Rattle.html_tokenizer.specs.Standing.{is_same}
use Rattle.html_tokenizer.specs.Tokenizer.States.{Attribute, BeforeValue, In, State, Tokenizer, Within, data_state}
use Rattle.html_tokenizer.specs.Tokenizer.Tokenization.{consume, state_after}
use Rattle.html_tokenizer.specs.Tokenizer.Transitions.{Transition}
use Rattle.html_tokenizer.specs.UrlValues.{is_of_urls, is_url, open_url, url_after, value_bytes}
use Rattle.html_tokenizer.proofs.UrlValues.Attributes.{no_url_of_none}
use Rattle.html_tokenizer.proofs.UrlValues.Bytes.{Begins, OpenUrl, before, is_at, may_hold_url, start_state, starts, stays_open, unquoted, within}
use Rattle.html_tokenizer.proofs.UrlValues.Following.{in_value}
use Rattle.html_tokenizer.proofs.UrlValues.Opening.AllStates.{opens_at_equals}
use Rattle.html_tokenizer.proofs.UrlValues.Places.{is_value_place}

-- a value of URLs is open only in these states
abbrev pub IsTame : Tokenizer → Type 0
IsTame t = is_of_urls t.attribute ≡ true → may_hold_url t.state ≡ true

-- one that has not begun holds nothing
abbrev pub IsFresh : Tokenizer → List ℕ → Type 0
IsFresh t value = is_of_urls t.attribute ≡ true → t.state ≡ BeforeValue → value ≡ []

-- ---- one byte

pub same_places : (p q : SlotPlace) → is_same p q ≡ true → p ≡ q
same_places Text Text is = refl
same_places DoubleQuoted DoubleQuoted is = refl
same_places SingleQuoted SingleQuoted is = refl
same_places Unquoted Unquoted is = refl
same_places ScriptSingle ScriptSingle is = refl
same_places ScriptDouble ScriptDouble is = refl
same_places StyleSingle StyleSingle is = refl
same_places StyleDouble StyleDouble is = refl
same_places p q is = absurd (false≢true is)

inside_holds : (p : SlotPlace) (s : State) → is_value_place p ≡ true → in_value p s ≡ true → may_hold_url s ≡ true
inside_holds p (In q) place inside = subst (λ x. is_value_place x ≡ true) (same_places p q inside) place
inside_holds p (Within q word) place inside = subst (λ x. is_value_place x ≡ true) (same_places p q inside) place
inside_holds p other place inside = absurd (false≢true inside)

-- a state within a value is within no other one, nor before one
pub one_place : (p q : SlotPlace) (s : State) → in_value p s ≡ true → is_at q s ≡ true → p ≡ q
one_place p Unquoted (In r) inside at = same_places p r inside ∙ sym (same_places Unquoted r at)
one_place p Unquoted (Within r word) inside at = same_places p r inside ∙ sym (same_places Unquoted r at)
one_place p q (In r) inside at = same_places p r inside ∙ sym (same_places q r at)
one_place p q (Within r word) inside at = same_places p r inside ∙ sym (same_places q r at)
one_place p q other inside at = absurd (false≢true inside)

-- nor does a value begin at two places
pub one_start : (p q : SlotPlace) (s : State) → s ≡ start_state q → is_at p s ≡ true → p ≡ q
one_start Unquoted Unquoted s is at = refl
one_start Unquoted q s is at = same_places Unquoted q (rw is at at)
one_start p Unquoted s is at = absurd (false≢true (rw is at at))
one_start p q s is at = same_places p q (rw is at at)

pub inside_at : (p : SlotPlace) (s : State) → in_value p s ≡ true → is_at p s ≡ true
inside_at Unquoted (In r) inside = inside
inside_at Unquoted (Within r word) inside = inside
inside_at Unquoted other inside = absurd (false≢true inside)
inside_at p s inside = inside

start_holds : (q : SlotPlace) → is_value_place q ≡ true → may_hold_url (start_state q) ≡ true
start_holds Unquoted place = refl
start_holds q place = place

begins_holds : {attribute : Attribute} {b : ℕ} {x : Transition} → Begins attribute b x → may_hold_url x.next.state ≡ true
begins_holds (starts q place mark next same actions) = rw next (start_holds q place)
begins_holds {x = x} (unquoted stays steps) = inside_holds Unquoted x.next.state refl stays.inside

open_holds : {s : State} {attribute : Attribute} {b : ℕ} {x : Transition} → OpenUrl s attribute b x → may_hold_url x.next.state ≡ true
open_holds (before is begins) = begins_holds begins
open_holds {x = x} (within p place inside stays steps) = inside_holds p x.next.state place stays.inside

pub tame_next : (t : Tokenizer) (b : ℕ) → IsTame t → IsTame (consume t b).next
tame_next t b tame is =
    ⊎_elim
    (λ (url : is_of_urls t.attribute ≡ true). open_holds (stays_open t b url (tame url) is))
    (λ (none : is_of_urls t.attribute ≡ false). rw (opens_at_equals t b none is).before_value refl)
    (cases_Bool (is_of_urls t.attribute))

pub tame_after : (t : Tokenizer) (bytes : List ℕ) → IsTame t → IsTame (state_after t bytes)
tame_after t [] tame = tame
tame_after t (b ∷ bytes) tame = tame_after (consume t b).next bytes (tame_next t b tame)

pub data_state_is_tame : IsTame data_state
data_state_is_tame is = absurd (false≢true is)

-- ---- the value before its first byte

not_before : (p : SlotPlace) (s : State) → in_value p s ≡ true → s ≡ BeforeValue → ⊥
not_before p s inside is = false≢true (rw is at inside)

begins_fresh : {attribute : Attribute} {b : ℕ} {x : Transition} (value : List ℕ) → value ≡ [] → Begins attribute b x → x.next.state ≡ BeforeValue →
    value ++ value_bytes x.actions ≡ []
begins_fresh value fresh (starts q place mark next same actions) is = rw (fresh, actions) refl
begins_fresh {x = x} value fresh (unquoted stays steps) is = absurd (not_before Unquoted x.next.state stays.inside is)

open_fresh : {s : State} {attribute : Attribute} {b : ℕ} {x : Transition} (value : List ℕ) → (s ≡ BeforeValue → value ≡ []) → OpenUrl s attribute b x →
    x.next.state ≡ BeforeValue → value ++ value_bytes x.actions ≡ []
open_fresh value fresh (before here begins) is = begins_fresh value (fresh here) begins is
open_fresh {x = x} value fresh (within p place inside stays steps) is = absurd (not_before p x.next.state stays.inside is)

-- what is kept of a value that holds nothing
pub none_kept : (kept : Bool) (value : List ℕ) → value ≡ [] → (if kept then value else []) ≡ []
none_kept true value none = none
none_kept false value none = refl

pub fresh_next : (t : Tokenizer) (value : List ℕ) (b : ℕ) → IsTame t → IsFresh t value → IsFresh (consume t b).next (url_after t value b)
fresh_next t value b tame fresh is next =
    ⊎_elim
    (λ (url : is_of_urls t.attribute ≡ true).
    open_fresh (if is_url t.attribute then value else []) (λ here. none_kept (is_url t.attribute) value (fresh url here)) (stays_open t b url (tame url) is) next)
    (λ (none : is_of_urls t.attribute ≡ false). rw (no_url_of_none t.attribute none, (opens_at_equals t b none is).nothing) refl)
    (cases_Bool (is_of_urls t.attribute))

pub fresh_after : (t : Tokenizer) (value bytes : List ℕ) → IsTame t → IsFresh t value → IsFresh (state_after t bytes) (open_url t value bytes)
fresh_after t value [] tame fresh = fresh
fresh_after t value (b ∷ bytes) tame fresh =
    fresh_after (consume t b).next (url_after t value b) bytes (tame_next t b tame) (fresh_next t value b tame fresh)
