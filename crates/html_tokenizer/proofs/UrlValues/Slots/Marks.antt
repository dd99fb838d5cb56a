-- The byte after which the value of a URL begins, or one of a list, from where the value stands open.
use Rattle.std.proofs.Common.{ℕ, ◌≡◌, true, false, if◌then◌else◌, List, [], ◌∷◌, ◌++◌, refl, ap, ◌∙◌, sym, subst, ⊎_elim}
use Rattle.std.specs.List.{list_any}
use Rattle.std.proofs.lemmas.Bool.{cases_Bool, eqb-true, false≢true, or_parts, true≢false}
use Rattle.html_tokenizer.specs.declared.slot_place.SlotPlace.{SlotPlace}
use Rattle.html_tokenizer.specs.declared.slot_place.SlotPlace.TheVariants.{DoubleQuoted, SingleQuoted, Unquoted}
use Rattle.html_tokenizer.specs.Tokenizer.Attributes.ListParts.{is_list_mark}
use Rattle.html_tokenizer.specs.Tokenizer.States.{Attribute, BeforeValue, In, State, Tokenizer, Within}
use Rattle.html_tokenizer.specs.Tokenizer.Tokenization.{consume, state_after}
use Rattle.html_tokenizer.specs.Tokenizer.Transitions.{Transition}
use Rattle.html_tokenizer.specs.UrlValues.{begins_value, ends_value, is_of_urls, is_url, url_after, value_bytes}
use Rattle.html_tokenizer.proofs.UrlValues.Attributes.{is_going, is_listed, no_url_of_none}
use Rattle.html_tokenizer.proofs.UrlValues.Bytes.{Begins, OpenUrl, before, class_next, is_at, start_state, starts, stays_open, unquoted, within}
use Rattle.html_tokenizer.proofs.UrlValues.Following.{StaysAt, is_unheld}
use Rattle.html_tokenizer.proofs.UrlValues.Places.{is_in_quotes, is_value_place}
use Rattle.html_tokenizer.proofs.UrlValues.Opening.AllStates.{opens_at_equals}
use Rattle.html_tokenizer.proofs.UrlValues.Slots.Tame.{IsFresh, IsTame, inside_at, none_kept, one_place, one_start, same_places, tame_next}

-- ---- back over bytes that begin no value at the place

-- the value at this place stood open before the byte, too
record Stood (p : SlotPlace) (b : ℕ) (s : State) : Type 0 where
  at : is_at p s ≡ true
  no_end : ends_value p b ≡ false

begins_back : {s : State} {attribute : Attribute} {b : ℕ} {x : Transition} (p : SlotPlace) → s ≡ BeforeValue → Begins attribute b x → is_at p x.next.state ≡ true →
    begins_value p b ≡ false → Stood p b s
begins_back {b = b} {x = x} p here (starts q place mark next same actions) at none =
    absurd (true≢false (sym mark ∙ subst (λ r. begins_value r b ≡ false) (one_start p q x.next.state next at) none))
begins_back {s} {b = b} {x = x} p here (unquoted stays steps) at none =
    subst (λ q. Stood q b s) (one_place Unquoted p x.next.state stays.inside at) (record { at = rw here refl; no_end = stays.no_end })

open_back : {s : State} {attribute : Attribute} {b : ℕ} {x : Transition} (p : SlotPlace) → OpenUrl s attribute b x → is_at p x.next.state ≡ true → begins_value p b ≡ false → Stood p b s
open_back p (before here begins) at none = begins_back p here begins at none
open_back {s} {b = b} {x = x} p (within q place inside stays steps) at none =
    subst (λ r. Stood r b s) (one_place q p x.next.state stays.inside at) (record { at = inside_at q s inside; no_end = stays.no_end })

-- the value at this place stood open before the bytes, and none of them ends it; a list that goes on behind them did so before, if no byte cuts it
pub record StoodOpen (p : SlotPlace) (t : Tokenizer) (bytes : List ℕ) : Type 0 where
  pub of : is_of_urls t.attribute ≡ true
  pub at : is_at p t.state ≡ true
  pub inner : list_any (ends_value p) bytes ≡ false
  pub same : is_listed (state_after t bytes).attribute ≡ is_listed t.attribute
  pub goes : is_going (state_after t bytes).attribute ≡ true → list_any is_list_mark bytes ≡ false → is_going t.attribute ≡ true

pub walks_back : (p : SlotPlace) (t : Tokenizer) (bytes : List ℕ) → IsTame t → is_of_urls (state_after t bytes).attribute ≡ true →
    is_at p (state_after t bytes).state ≡ true → list_any (begins_value p) bytes ≡ false → StoodOpen p t bytes
walks_back p t [] tame url at none = record { of = url; at = at; inner = refl; same = refl; goes = λ going cut. going }
walks_back p t (b ∷ bytes) tame url at none =
    let parts = or_parts (begins_value p b) (list_any (begins_value p) bytes) none in
    let rest = walks_back p (consume t b).next bytes (tame_next t b tame) url at parts.1 in
    ⊎_elim
    (λ (here : is_of_urls t.attribute ≡ true).
    let open_there = stays_open t b here (tame here) rest.of in
    let stood = open_back p open_there rest.at parts.0 in
    let class = class_next open_there in
    record {
      of = here;
      at = stood.at;
      inner = rw (stood.no_end, rest.inner) refl;
      same = rest.same ∙ class.same;
      goes = λ going cut. let marks = or_parts (is_list_mark b) (list_any is_list_mark bytes) cut in class.goes (rest.goes going marks.1) marks.0;
    })
    (λ (no_url : is_of_urls t.attribute ≡ false).
    let opened = opens_at_equals t b no_url rest.of in
    let mark : begins_value Unquoted b ≡ true = rw opened.equals refl in
    absurd (true≢false (sym mark ∙ subst (λ r. begins_value r b ≡ false) (one_start p Unquoted (consume t b).next.state opened.before_value rest.at) parts.0)))
    (cases_Bool (is_of_urls t.attribute))

-- ---- the byte that begins the value

-- after the byte the value at this place begins, and holds nothing
record StartsAfter (p : SlotPlace) (value : List ℕ) (x : Transition) : Type 0 where
  start : x.next.state ≡ start_state p
  nothing : value ++ value_bytes x.actions ≡ []

no_start : {q : SlotPlace} {b : ℕ} {s : State} {A : Type 0} (p : SlotPlace) → StaysAt q b s → is_at p s ≡ true → begins_value p b ≡ true → A
no_start {q} {b} {s} p stays at mark =
    absurd (true≢false (sym mark ∙ subst (λ r. begins_value r b ≡ false) (one_place q p s stays.inside at) stays.no_mark))

begins_starts : {attribute : Attribute} {b : ℕ} {x : Transition} (p : SlotPlace) (value : List ℕ) → value ≡ [] → Begins attribute b x → is_at p x.next.state ≡ true →
    begins_value p b ≡ true → StartsAfter p value x
begins_starts {x = x} p value fresh (starts q place mark next same actions) at begins =
    record { start = next ∙ ap start_state (sym (one_start p q x.next.state next at)); nothing = rw (fresh, actions) refl }
begins_starts p value fresh (unquoted stays steps) at mark = no_start p stays at mark

open_starts : {s : State} {attribute : Attribute} {b : ℕ} {x : Transition} (p : SlotPlace) (value : List ℕ) → (s ≡ BeforeValue → value ≡ []) → OpenUrl s attribute b x →
    is_at p x.next.state ≡ true → begins_value p b ≡ true → StartsAfter p value x
open_starts p value fresh (before here begins) at mark = begins_starts p value (fresh here) begins at mark
open_starts p value fresh (within q place inside stays steps) at mark = no_start p stays at mark

pub record Starts (p : SlotPlace) (t : Tokenizer) (value : List ℕ) (b : ℕ) : Type 0 where
  pub start : (consume t b).next.state ≡ start_state p
  pub nothing : url_after t value b ≡ []

pub mark_starts : (p : SlotPlace) (t : Tokenizer) (value : List ℕ) (b : ℕ) → IsTame t → IsFresh t value →
    is_of_urls (consume t b).next.attribute ≡ true → is_at p (consume t b).next.state ≡ true → begins_value p b ≡ true → Starts p t value b
mark_starts p t value b tame fresh url at mark =
    ⊎_elim
    (λ (here : is_of_urls t.attribute ≡ true).
    let starts = open_starts p (if is_url t.attribute then value else []) (λ is. none_kept (is_url t.attribute) value (fresh here is))
    (stays_open t b here (tame here) url) at mark in
    record { start = starts.start; nothing = starts.nothing })
    (λ (no_url : is_of_urls t.attribute ≡ false).
    let opened = opens_at_equals t b no_url url in
    record { start = opened.before_value ∙ ap start_state (sym (one_start p Unquoted (consume t b).next.state opened.before_value at)); nothing = rw (no_url_of_none t.attribute no_url, opened.nothing) refl })
    (cases_Bool (is_of_urls t.attribute))

-- ---- a byte that cuts a list

-- behind it the value at this place goes on with no URL and in no reference
pub record CutsList (p : SlotPlace) (t : Tokenizer) : Type 0 where
  pub in_place : t.state ≡ In p
  pub no_url : is_url t.attribute ≡ false

unheld_at : (p : SlotPlace) (s : State) → is_in_quotes p ≡ true → is_unheld s ≡ true → is_at p s ≡ true → s ≡ In p
unheld_at Unquoted s quoted unheld at = absurd (false≢true quoted)
unheld_at p (In q) quoted unheld at = sym (ap In (same_places p q at))
unheld_at p (Within q word) quoted unheld at = absurd (false≢true unheld)
unheld_at p other quoted unheld at = absurd (false≢true at)

quoted_at : (p : SlotPlace) (s : State) → is_in_quotes p ≡ true → s ≡ BeforeValue → is_at p s ≡ false
quoted_at DoubleQuoted s quoted is = rw is refl
quoted_at SingleQuoted s quoted is = rw is refl
quoted_at other s quoted is = absurd (false≢true quoted)

-- it begins no value in quotes
mark_begins : (p q : SlotPlace) (b : ℕ) (s : State) → is_in_quotes p ≡ true → is_value_place q ≡ true → is_list_mark b ≡ true → begins_value q b ≡ true →
    s ≡ start_state q → is_at p s ≡ true → ⊥
mark_begins p DoubleQuoted b s quoted place mark begins is at = true≢false (sym mark ∙ ap is_list_mark (eqb-true b 34 begins))
mark_begins p SingleQuoted b s quoted place mark begins is at = true≢false (sym mark ∙ ap is_list_mark (eqb-true b 39 begins))
mark_begins p Unquoted b s quoted place mark begins is at = true≢false (sym at ∙ quoted_at p s quoted is)
mark_begins p other b s quoted place mark begins is at = false≢true place

no_unquoted : (p : SlotPlace) → is_in_quotes p ≡ true → Unquoted ≡ p → ⊥
no_unquoted p quoted is = false≢true (subst (λ q. is_in_quotes q ≡ true) (sym is) quoted)

begins_cuts : {attribute : Attribute} {b : ℕ} {x : Transition} (p : SlotPlace) → is_in_quotes p ≡ true → Begins attribute b x → is_at p x.next.state ≡ true →
    is_list_mark b ≡ true → ⊥
begins_cuts {b = b} {x = x} p quoted (starts q place begins next same actions) at mark = mark_begins p q b x.next.state quoted place mark begins next at
begins_cuts {x = x} p quoted (unquoted stays steps) at mark = no_unquoted p quoted (one_place Unquoted p x.next.state stays.inside at)

open_cuts : {s : State} {attribute : Attribute} {b : ℕ} {x : Transition} (p : SlotPlace) → is_in_quotes p ≡ true → OpenUrl s attribute b x →
    is_listed x.next.attribute ≡ true → is_at p x.next.state ≡ true → is_list_mark b ≡ true → CutsList p x.next
open_cuts p quoted (before here begins) listed at mark = absurd (begins_cuts p quoted begins at mark)
open_cuts {x = x} p quoted (within q place inside stays steps) listed at mark =
    let cut = steps.marked mark (sym steps.same ∙ listed) in
    record { in_place = unheld_at p x.next.state quoted cut.0 at; no_url = cut.1 }

pub mark_cuts : (p : SlotPlace) (t : Tokenizer) (b : ℕ) → is_in_quotes p ≡ true → IsTame t → is_of_urls (consume t b).next.attribute ≡ true →
    is_listed (consume t b).next.attribute ≡ true → is_at p (consume t b).next.state ≡ true → is_list_mark b ≡ true → CutsList p (consume t b).next
mark_cuts p t b quoted tame url listed at mark =
    ⊎_elim
    (λ (here : is_of_urls t.attribute ≡ true). open_cuts p quoted (stays_open t b here (tame here) url) listed at mark)
    (λ (none : is_of_urls t.attribute ≡ false). absurd (true≢false (sym mark ∙ ap is_list_mark (opens_at_equals t b none url).equals)))
    (cases_Bool (is_of_urls t.attribute))
