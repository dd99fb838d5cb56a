-- Where a slot stands in a URL, and what the URL holds there, by the markup before the slot.
use Rattle.std.proofs.Common.{ℕ, ◌≡◌, Bool, true, false, List, [], ◌∷◌, ◌++◌, ◌==◌, Some, None, inl, inr, if◌then◌else◌, refl, ap, ◌∙◌, sym, subst, ⊎_elim}
use Rattle.std.specs.List.{list_any}
use Rattle.std.proofs.lemmas.Bool.{cases_Bool, eqb-true, false≢true, or_parts, true≢false}
use Rattle.hesc_specs.specs.Text.Ascii.{ampersand, double_quote, greater_than, single_quote}
use Rattle.html_tokenizer.specs.declared.elements.Content.{Content}
use Rattle.html_tokenizer.specs.declared.slot_place.SlotPlace.{SlotPlace}
use Rattle.html_tokenizer.specs.declared.slot_place.SlotPlace.TheVariants.{DoubleQuoted, SingleQuoted, Unquoted}
use Rattle.html_tokenizer.specs.Standing.{is_refused, before_value, in_content, in_declaration, in_list, is_same, standing, standing_in, takes_json, takes_literal, unless_forbidden}
use Rattle.html_tokenizer.specs.Declarations.{comma, is_blank}
use Rattle.html_tokenizer.specs.Tokenizer.Attributes.ListParts.{is_list_mark}
use Rattle.html_tokenizer.specs.Tokenizer.States.{Attribute, BeforeValue, Declarations, In, InCode, Link, Listed, Ordinary, RawUrl, Refused, State, Tokenizer, Url, Within, at_value}
use Rattle.html_tokenizer.specs.Tokenizer.Tags.{is_space}
use Rattle.html_tokenizer.specs.Tokenizer.Tokenization.{consume, state_after}
use Rattle.html_tokenizer.specs.Tokenizer.Transitions.{Transition}
use Rattle.html_tokenizer.specs.Tokenizer.Values.{before_value_byte}
use Rattle.html_tokenizer.specs.UrlValues.{after_last, begins_url, begins_value, closes_url, ends_value, is_of_urls, is_url, open_url, url_after, url_text, value_bytes}
use Rattle.html_tokenizer.proofs.Passing.{state_after-append}
use Rattle.html_tokenizer.proofs.Slots.Html.{first_as_other}
use Rattle.html_tokenizer.proofs.UrlValues.Appending.{open_url-append}
use Rattle.html_tokenizer.proofs.UrlValues.Attributes.{is_going, is_listed, is_open, of_open, open_is_listed, whole_open}
use Rattle.html_tokenizer.proofs.UrlValues.Bytes.{is_at, start_state, may_hold_url}
use Rattle.html_tokenizer.proofs.UrlValues.Places.{is_in_quotes, is_value_place}
use Rattle.html_tokenizer.proofs.UrlValues.Reading.{reads_on}
use Rattle.html_tokenizer.proofs.UrlValues.Slots.Tame.{IsFresh, IsTame, fresh_after, tame_after, tame_next, inside_at, same_places}
use Rattle.html_tokenizer.proofs.UrlValues.Slots.Marks.{mark_cuts, mark_starts, walks_back}
use Rattle.html_tokenizer.specs.declared.elements.OpenElement.{OpenElement}
use Rattle.html_tokenizer.specs.declared.elements.OpenElement.TheVariants.{NoScript}
use Rattle.html_tokenizer.specs.declared.reader.Standing.{Standing}
use Rattle.html_tokenizer.specs.declared.states.ListPart.{ListPart}
use Rattle.html_tokenizer.specs.declared.states.ListPart.TheVariants as list
use Rattle.html_tokenizer.specs.declared.states.StylePart.{StylePart}
use Rattle.html_tokenizer.specs.declared.states.StylePart.TheVariants.{Value}
use Rattle.html_tokenizer.specs.declared.reader.Standing.TheVariants.{InUrl, InLink, InListedUrl, InScript, InJson, Nowhere, Barred}
use Rattle.html_tokenizer.specs.Tokenizer.Code.Escapes.{is_opaque}
use Rattle.html_tokenizer.proofs.UrlValues.Following.{in_value, same_place}

-- ---- the last byte that passes a test

record LastMark (is_mark : ℕ → Bool) (bytes raw : List ℕ) : Type 0 where
  front : List ℕ
  mark : ℕ
  parts : bytes ≡ front ++ mark ∷ raw
  is : is_mark mark ≡ true
  none : list_any is_mark raw ≡ false

last_mark : (is_mark : ℕ → Bool) (bytes raw : List ℕ) → after_last is_mark bytes ≡ Some raw → LastMark is_mark bytes raw
last_mark is_mark [] raw is = absurd (cc)
last_mark is_mark (b ∷ bytes) raw is =
    ⊎_elim
    (λ (more : list_any is_mark bytes ≡ true).
    let rest = last_mark is_mark bytes raw (rw more at is) in
    record { front = b ∷ rest.front; mark = rest.mark; parts = ap (λ x. b ∷ x) rest.parts; is = rest.is; none = rest.none })
    (λ (none : list_any is_mark bytes ≡ false).
    ⊎_elim
    (λ (here : is_mark b ≡ true).
    let found : Some bytes ≡ Some raw = rw (none, here) at is in
    let same : bytes ≡ raw = cc in
    record { front = []; mark = b; parts = ap (λ x. b ∷ x) same; is = here; none = subst (λ x. list_any is_mark x ≡ false) same none })
    (λ (other : is_mark b ≡ false). let never : None ≡ Some raw = rw (none, other) at is in absurd (cc))
    (cases_Bool (is_mark b)))
    (cases_Bool (list_any is_mark bytes))

-- ---- from the byte on

at_unrefused : (p : SlotPlace) (s : State) → is_at p s ≡ true → is_refused s ≡ false
at_unrefused Unquoted Refused at = absurd (false≢true at)
at_unrefused p Refused at = absurd (false≢true at)
at_unrefused p other at = refl

reads_quoted : (p : SlotPlace) (content : Content) (attribute : Attribute) (raw text : List ℕ) → is_value_place p ≡ true → is_open false attribute ≡ true →
    list_any (ends_value p) raw ≡ false → is_at p (state_after (at_value (In p) content attribute) raw).state ≡ true → url_text false raw ≡ Some text →
    open_url (at_value (In p) content attribute) [] raw ≡ text
reads_quoted p content attribute raw text place url_open inner at is =
    (reads_on false p content attribute raw text place url_open inner is (at_unrefused p (state_after (at_value (In p) content attribute) raw).state at)).stays.value []

no_quote : (content : Content) (attribute : Attribute) (b : ℕ) → is_at Unquoted (consume (at_value BeforeValue content attribute) b).next.state ≡ true →
    ((b == double_quote) ≡ false) × ((b == single_quote) ≡ false)
unfolding consume
no_quote content attribute b at = (none double_quote refl, none single_quote refl)
  where
    none : (mark : ℕ) → is_at Unquoted (before_value_byte content attribute mark).next.state ≡ false → (b == mark) ≡ false
    none mark quotes =
        elim (cases_Bool (b == mark)) [
          | inl same ↦ absurd (true≢false (sym at ∙ ap (λ x. is_at Unquoted (before_value_byte content attribute x).next.state) (eqb-true b mark same) ∙ quotes))
          | inr other ↦ other
        ]

-- from before the value the same is read, as its first byte opens no quotes
reads_first : (content : Content) (attribute : Attribute) (raw text : List ℕ) → is_open false attribute ≡ true →
    is_of_urls (state_after (at_value BeforeValue content attribute) raw).attribute ≡ true →
    is_at Unquoted (state_after (at_value BeforeValue content attribute) raw).state ≡ true →
    list_any (begins_value Unquoted) raw ≡ false → list_any (ends_value Unquoted) raw ≡ false → url_text false raw ≡ Some text →
    open_url (at_value BeforeValue content attribute) [] raw ≡ text
reads_first content attribute [] text url there at none inner is = let same : [] ≡ text = cc in same
reads_first content attribute (b ∷ raw) text url there at none inner is =
    let start : Tokenizer = at_value BeforeValue content attribute in
    let other : Tokenizer = at_value (In Unquoted) content attribute in
    let parts = or_parts (begins_value Unquoted b) (list_any (begins_value Unquoted) raw) none in
    let ends = or_parts (is_space b) (b == greater_than) (or_parts (ends_value Unquoted b) (list_any (ends_value Unquoted) raw) inner).0 in
    let stood = walks_back Unquoted (consume start b).next raw (tame_next start b (λ (_ : is_of_urls attribute ≡ true). refl)) there at parts.1 in
    let quotes = no_quote content attribute b stood.at in
    let first : consume start b ≡ consume other b = first_as_other content attribute b ends.0 quotes.0 quotes.1 ends.1 in
    let unrefused : is_refused (state_after other (b ∷ raw)).state ≡ false =
    at_unrefused Unquoted (state_after other (b ∷ raw)).state (subst (λ (x : Transition). is_at Unquoted (state_after x.next raw).state ≡ true) first at) in
    ap (λ (x : Transition). open_url x.next ((if is_url attribute then [] else []) ++ value_bytes x.actions) raw) first
    ∙ (reads_on false Unquoted content attribute (b ∷ raw) text refl url inner is unrefused).stays.value []

module _ (content : Content) (attribute : Attribute) (raw text : List ℕ) (url : is_open false attribute ≡ true) where
  reads_from : (p : SlotPlace) → is_value_place p ≡ true → is_of_urls (state_after (at_value (start_state p) content attribute) raw).attribute ≡ true →
      is_at p (state_after (at_value (start_state p) content attribute) raw).state ≡ true →
      list_any (begins_value p) raw ≡ false → list_any (ends_value p) raw ≡ false → url_text false raw ≡ Some text →
      open_url (at_value (start_state p) content attribute) [] raw ≡ text
  reads_from DoubleQuoted place there at none inner is = reads_quoted DoubleQuoted content attribute raw text refl url inner at is
  reads_from SingleQuoted place there at none inner is = reads_quoted SingleQuoted content attribute raw text refl url inner at is
  reads_from Unquoted place there at none inner is = reads_first content attribute raw text url there at none inner is
  reads_from other place there at none inner is = absurd (false≢true place)

reads_from_start : (p : SlotPlace) (s : Tokenizer) (raw text : List ℕ) → is_value_place p ≡ true → is_open false s.attribute ≡ true → s.state ≡ start_state p →
    is_of_urls (state_after s raw).attribute ≡ true → is_at p (state_after s raw).state ≡ true →
    list_any (begins_value p) raw ≡ false → list_any (ends_value p) raw ≡ false → url_text false raw ≡ Some text →
    open_url s [] raw ≡ text
reads_from_start p s raw text place url start there at none inner is =
    let same : s ≡ at_value (start_state p) s.content s.attribute = ap (λ x. at_value x s.content s.attribute) start in
    ap (λ x. open_url x [] raw) same
    ∙ reads_from s.content s.attribute raw text url p place (subst (λ (x : Tokenizer). is_of_urls (state_after x raw).attribute ≡ true) same there)
    (subst (λ (x : Tokenizer). is_at p (state_after x raw).state ≡ true) same at) none inner is

-- ---- the bytes before a slot

looks_back : (p : SlotPlace) (t : Tokenizer) (value bytes raw text : List ℕ) → is_value_place p ≡ true → IsTame t → IsFresh t value →
    is_open false (state_after t bytes).attribute ≡ true → is_at p (state_after t bytes).state ≡ true →
    after_last (begins_value p) bytes ≡ Some raw → url_text false raw ≡ Some text → open_url t value bytes ≡ text
looks_back p t value bytes raw text place tame fresh url_open at last is =
    let found = last_mark (begins_value p) bytes raw last in
    let here : Tokenizer = state_after t found.front in
    let held : List ℕ = open_url t value found.front in
    let next : Tokenizer = (consume here found.mark).next in
    let whole : state_after t bytes ≡ state_after next raw = ap (state_after t) found.parts ∙ state_after-append t found.front (found.mark ∷ raw) in
    let open_there : is_open false (state_after next raw).attribute ≡ true = subst (λ (x : Tokenizer). is_open false x.attribute ≡ true) whole url_open in
    let there : is_of_urls (state_after next raw).attribute ≡ true = of_open (state_after next raw).attribute open_there in
    let at_there : is_at p (state_after next raw).state ≡ true = subst (λ (x : Tokenizer). is_at p x.state ≡ true) whole at in
    let tame_here : IsTame here = tame_after t found.front tame in
    let stood = walks_back p next raw (tame_next here found.mark tame_here) there at_there found.none in
    let open_next : is_open false next.attribute ≡ true =
    whole_open next.attribute stood.of (sym stood.same ∙ open_is_listed false (state_after next raw).attribute open_there) in
    let starts = mark_starts p here held found.mark tame_here (fresh_after t value found.front tame fresh) stood.of stood.at found.is in
    ap (open_url t value) found.parts ∙ open_url-append t value found.front (found.mark ∷ raw)
    ∙ ap (λ x. open_url next x raw) starts.nothing
    ∙ reads_from_start p next raw text place open_next starts.start there at_there found.none stood.inner is

-- ---- the bytes before a slot in a URL of a list

-- what begins a URL of a list, of which a slot stands in a URL behind bytes that cut it nowhere: the quote mark, or white space or a comma
both_parts : (p : SlotPlace) (raw : List ℕ) → list_any (begins_url true p) raw ≡ false → (list_any (begins_value p) raw ≡ false) × (list_any is_list_mark raw ≡ false)
both_parts p [] none = (refl, refl)
both_parts p (b ∷ raw) none =
    let parts = or_parts (begins_url true p b) (list_any (begins_url true p) raw) none in
    let here = or_parts (begins_value p b) (is_list_mark b) parts.0 in
    let rest = both_parts p raw parts.1 in
    (rw (here.0, rest.0) refl, rw (here.1, rest.1) refl)

closes_none : (p : SlotPlace) (raw : List ℕ) → list_any (ends_value p) raw ≡ false → list_any is_list_mark raw ≡ false → list_any (closes_url true p) raw ≡ false
closes_none p [] inner uncut = refl
closes_none p (b ∷ raw) inner uncut =
    let ends = or_parts (ends_value p b) (list_any (ends_value p) raw) inner in
    let marks = or_parts (is_list_mark b) (list_any is_list_mark raw) uncut in
    rw (ends.0, marks.0) (closes_none p raw ends.1 marks.1)

-- where a URL of a list is open, or may begin
data Going (attribute : Attribute) : Type 0 where
  before_url : attribute ≡ Listed list.BeforeUrl → Going attribute
  in_url_of_list : attribute ≡ Listed list.Url → Going attribute

going_so : (attribute : Attribute) → is_going attribute ≡ true → Going attribute
going_so (Listed list.BeforeUrl) is = before_url refl
going_so (Listed list.Url) is = in_url_of_list refl
going_so other is = absurd (false≢true is)

-- but for a byte that cuts the list, and a `&`, the first byte of a URL is read as another one
first_of_url : (p : SlotPlace) (content : Content) (b : ℕ) → is_in_quotes p ≡ true → is_list_mark b ≡ false → (b == ampersand) ≡ false →
    consume (at_value (In p) content (Listed list.BeforeUrl)) b ≡ consume (at_value (In p) content (Listed list.Url)) b
unfolding consume
first_of_url DoubleQuoted content b quoted uncut no_reference = let parts = or_parts (is_blank b) (b == comma) uncut in rw (no_reference, uncut, parts.1, parts.0) refl
first_of_url SingleQuoted content b quoted uncut no_reference = let parts = or_parts (is_blank b) (b == comma) uncut in rw (no_reference, uncut, parts.1, parts.0) refl
first_of_url other content b quoted uncut no_reference = absurd (false≢true quoted)

reference_ends : (p : SlotPlace) (content : Content) → is_in_quotes p ≡ true → is_going (consume (at_value (In p) content (Listed list.BeforeUrl)) ampersand).next.attribute ≡ false
unfolding consume
reference_ends DoubleQuoted content quoted = refl
reference_ends SingleQuoted content quoted = refl
reference_ends other content quoted = absurd (false≢true quoted)

quoted_place : (p : SlotPlace) → is_in_quotes p ≡ true → is_value_place p ≡ true
quoted_place DoubleQuoted quoted = refl
quoted_place SingleQuoted quoted = refl
quoted_place other quoted = absurd (false≢true quoted)

reads_in_url : (p : SlotPlace) (content : Content) (raw text : List ℕ) → is_in_quotes p ≡ true → list_any (ends_value p) raw ≡ false →
    list_any is_list_mark raw ≡ false → url_text false raw ≡ Some text →
    is_at p (state_after (at_value (In p) content (Listed list.Url)) raw).state ≡ true → open_url (at_value (In p) content (Listed list.Url)) [] raw ≡ text
reads_in_url p content raw text quoted inner uncut is at =
    (reads_on true p content (Listed list.Url) raw text (quoted_place p quoted) refl (closes_none p raw inner uncut) is
    (at_unrefused p (state_after (at_value (In p) content (Listed list.Url)) raw).state at)).stays.value []

reads_before : (p : SlotPlace) (content : Content) (held raw text : List ℕ) → is_in_quotes p ≡ true → list_any (begins_value p) raw ≡ false →
    list_any (ends_value p) raw ≡ false → list_any is_list_mark raw ≡ false → url_text false raw ≡ Some text →
    (state_after (at_value (In p) content (Listed list.BeforeUrl)) raw).attribute ≡ Listed list.Url →
    is_at p (state_after (at_value (In p) content (Listed list.BeforeUrl)) raw).state ≡ true →
    open_url (at_value (In p) content (Listed list.BeforeUrl)) held raw ≡ text
reads_before p content held [] text quoted none inner uncut is there at = let clash : is_url (Listed list.BeforeUrl) ≡ true = ap is_url there in absurd (false≢true clash)
reads_before p content held (b ∷ raw) text quoted none inner uncut is there at =
    let start : Tokenizer = at_value (In p) content (Listed list.BeforeUrl) in
    let other : Tokenizer = at_value (In p) content (Listed list.Url) in
    let marks = or_parts (is_list_mark b) (list_any is_list_mark raw) uncut in
    let begins = or_parts (begins_value p b) (list_any (begins_value p) raw) none in
    ⊎_elim
    (λ (reference : (b == ampersand) ≡ true).
    let next : Tokenizer = (consume start b).next in
    let stood = walks_back p next raw (tame_next start b (λ (_ : is_of_urls (Listed list.BeforeUrl) ≡ true). quoted_place p quoted)) (ap is_of_urls there) at begins.1 in
    let going : is_going next.attribute ≡ true = stood.goes (ap is_going there) marks.1 in
    let ends : is_going next.attribute ≡ false = rw (eqb-true b ampersand reference) (reference_ends p content quoted) in
    absurd (true≢false (sym going ∙ ends)))
    (λ (no_reference : (b == ampersand) ≡ false).
    let first : consume start b ≡ consume other b = first_of_url p content b quoted marks.0 no_reference in
    ap (λ (x : Transition). open_url x.next ([] ++ value_bytes x.actions) raw) first
    ∙ reads_in_url p content (b ∷ raw) text quoted inner uncut is (subst (λ (x : Transition). is_at p (state_after x.next raw).state ≡ true) first at))
    (cases_Bool (b == ampersand))

same_list : (p : SlotPlace) (s : Tokenizer) (part : ListPart) → s.state ≡ In p → s.attribute ≡ Listed part → s ≡ at_value (In p) s.content (Listed part)
same_list p s part start same = ap (λ x. at_value x s.content s.attribute) start ∙ ap (at_value (In p) s.content) same

-- a URL that is open holds nothing yet
reads_list : (p : SlotPlace) (s : Tokenizer) (held raw text : List ℕ) → is_in_quotes p ≡ true → list_any (begins_value p) raw ≡ false →
    list_any (ends_value p) raw ≡ false → list_any is_list_mark raw ≡ false → url_text false raw ≡ Some text → s.state ≡ In p →
    (state_after s raw).attribute ≡ Listed list.Url → is_at p (state_after s raw).state ≡ true → Going s.attribute → (is_url s.attribute ≡ true → held ≡ []) →
    open_url s held raw ≡ text
reads_list p s held raw text quoted none inner uncut is start there at (before_url same) empty =
    let here = same_list p s list.BeforeUrl start same in
    ap (λ (x : Tokenizer). open_url x held raw) here
    ∙ reads_before p s.content held raw text quoted none inner uncut is
    (subst (λ (x : Tokenizer). (state_after x raw).attribute ≡ Listed list.Url) here there) (subst (λ (x : Tokenizer). is_at p (state_after x raw).state ≡ true) here at)
reads_list p s held raw text quoted none inner uncut is start there at (in_url_of_list same) empty =
    let here = same_list p s list.Url start same in
    ap (λ (x : Tokenizer). open_url x held raw) here
    ∙ ap (λ x. open_url (at_value (In p) s.content (Listed list.Url)) x raw) (empty (ap is_url same))
    ∙ reads_in_url p s.content raw text quoted inner uncut is (subst (λ (x : Tokenizer). is_at p (state_after x raw).state ≡ true) here at)

quoted_start : (p : SlotPlace) → is_in_quotes p ≡ true → start_state p ≡ In p
quoted_start DoubleQuoted quoted = refl
quoted_start SingleQuoted quoted = refl
quoted_start other quoted = absurd (false≢true quoted)

-- behind the byte no URL is open that holds anything
list_begins : (p : SlotPlace) (t : Tokenizer) (value : List ℕ) (b : ℕ) → is_in_quotes p ≡ true → IsTame t → IsFresh t value →
    is_of_urls (consume t b).next.attribute ≡ true → is_listed (consume t b).next.attribute ≡ true → is_at p (consume t b).next.state ≡ true →
    begins_url true p b ≡ true → ((consume t b).next.state ≡ In p) × (is_url (consume t b).next.attribute ≡ true → url_after t value b ≡ [])
list_begins p t value b quoted tame fresh of listed at begins =
    ⊎_elim
    (λ (mark : begins_value p b ≡ true).
    let starts = mark_starts p t value b tame fresh of at mark in
    (starts.start ∙ quoted_start p quoted, λ url. starts.nothing))
    (λ (other : begins_value p b ≡ false).
    let cut = mark_cuts p t b quoted tame of listed at (rw other at begins) in
    (cut.in_place, λ url. absurd (true≢false (sym url ∙ cut.no_url))))
    (cases_Bool (begins_value p b))

looks_back_list : (p : SlotPlace) (t : Tokenizer) (value bytes raw text : List ℕ) → is_in_quotes p ≡ true → IsTame t → IsFresh t value →
    (state_after t bytes).attribute ≡ Listed list.Url → is_at p (state_after t bytes).state ≡ true →
    after_last (begins_url true p) bytes ≡ Some raw → url_text false raw ≡ Some text → open_url t value bytes ≡ text
looks_back_list p t value bytes raw text quoted tame fresh listed at last is =
    let found = last_mark (begins_url true p) bytes raw last in
    let here : Tokenizer = state_after t found.front in
    let held : List ℕ = open_url t value found.front in
    let next : Tokenizer = (consume here found.mark).next in
    let whole : state_after t bytes ≡ state_after next raw = ap (state_after t) found.parts ∙ state_after-append t found.front (found.mark ∷ raw) in
    let there : (state_after next raw).attribute ≡ Listed list.Url = subst (λ (x : Tokenizer). x.attribute ≡ Listed list.Url) whole listed in
    let at_there : is_at p (state_after next raw).state ≡ true = subst (λ (x : Tokenizer). is_at p x.state ≡ true) whole at in
    let tame_here : IsTame here = tame_after t found.front tame in
    let parts = both_parts p raw found.none in
    let stood = walks_back p next raw (tame_next here found.mark tame_here) (ap is_of_urls there) at_there parts.0 in
    let begun = list_begins p here held found.mark quoted tame_here (fresh_after t value found.front tame fresh) stood.of (sym stood.same ∙ ap is_listed there) stood.at found.is in
    ap (open_url t value) found.parts ∙ open_url-append t value found.front (found.mark ∷ raw)
    ∙ reads_list p next (url_after here held found.mark) raw text quoted parts.0 stood.inner parts.1 is begun.0 there at_there
    (going_so next.attribute (stood.goes (ap is_going there) parts.1)) begun.1

-- ---- where a slot stands

-- a slot at this place stands in a URL
pub record AtUrl (p : SlotPlace) (u : Tokenizer) : Type 0 where
  pub url_open : is_open false u.attribute ≡ true
  pub at : is_at p u.state ≡ true

-- in a URL, of an element that only shows or follows it, or of another one
abbrev pub in_url : SlotPlace → Standing → Bool
in_url p (InUrl q) = is_same p q
in_url p (InLink q) = is_same p q
in_url p other = false

record UrlAt (p q : SlotPlace) (attribute : Attribute) : Type 0 where
  url_open : is_open false attribute ≡ true
  same : is_same p q ≡ true

declaration_none : (p : SlotPlace) (part : StylePart) (q : SlotPlace) → in_url p (in_declaration part q) ≡ false
declaration_none p Value DoubleQuoted = refl
declaration_none p Value SingleQuoted = refl
declaration_none p part q = refl

list_none : (p : SlotPlace) (part : ListPart) (q : SlotPlace) → in_url p (in_list part q) ≡ false
list_none p list.Url DoubleQuoted = refl
list_none p list.Url SingleQuoted = refl
list_none p part q = refl

forbids_none : (p q : SlotPlace) (attribute : Attribute) → in_url p (unless_forbidden attribute q) ≡ true → UrlAt p q attribute
forbids_none p q Url is = record { url_open = refl; same = is }
forbids_none p q RawUrl is = record { url_open = refl; same = is }
forbids_none p q Link is = record { url_open = refl; same = is }
forbids_none p q (Declarations part) is = absurd (true≢false (sym is ∙ declaration_none p part q))
forbids_none p q (Listed part) is = absurd (true≢false (sym is ∙ list_none p part q))
forbids_none p q other is = absurd (false≢true is)

within_content : (p : SlotPlace) (element : OpenElement) (s : Standing) → in_url p (in_content element s) ≡ true → in_url p s ≡ true
within_content p NoScript (InUrl q) is = is
within_content p NoScript s is = absurd (false≢true is)
within_content p other s is = is

before_none : (p : SlotPlace) (attribute : Attribute) → in_url p (before_value attribute) ≡ false
before_none p Ordinary = refl
before_none p other = refl

in_code_none : (p : SlotPlace) (opaque literal json : Bool) → in_url p (if opaque then Barred else (if literal then InScript else (if json then InJson else Nowhere))) ≡ false
in_code_none p true literal json = refl
in_code_none p false true json = refl
in_code_none p false false true = refl
in_code_none p false false false = refl

stands_in : (p : SlotPlace) (s : State) (content : Content) (attribute : Attribute) → in_url p (standing_in s content attribute) ≡ true →
    AtUrl p (at_value s content attribute)
stands_in p (In q) content attribute is =
    let found = forbids_none p q attribute (within_content p content.element (unless_forbidden attribute q) is) in
    record { url_open = found.url_open; at = inside_at p (In q) found.same }
stands_in p BeforeValue content attribute is = absurd (true≢false (sym is ∙ before_none p attribute))
stands_in p (InCode kind) content attribute is = absurd (true≢false (sym is ∙ in_code_none p (is_opaque kind) (takes_literal kind content attribute) (takes_json kind content attribute)))
stands_in p other content attribute is = absurd (false≢true is)

pub stands_in_url : (p : SlotPlace) (u : Tokenizer) → in_url p (standing u) ≡ true → AtUrl p u
stands_in_url p u is = stands_in p u.state u.content u.attribute is

-- a slot in a URL of a list
abbrev pub in_listed_url : SlotPlace → Standing → Bool
in_listed_url p (InListedUrl q) = is_same p q
in_listed_url p other = false

pub record AtListedUrl (p : SlotPlace) (u : Tokenizer) : Type 0 where
  pub quoted : is_in_quotes p ≡ true
  pub attribute_is : u.attribute ≡ Listed list.Url
  pub state_is : u.state ≡ In p

record ListedAt (p q : SlotPlace) (attribute : Attribute) : Type 0 where
  quoted : is_in_quotes p ≡ true
  attribute_is : attribute ≡ Listed list.Url
  same : p ≡ q

part_listed : (p : SlotPlace) (part : ListPart) (q : SlotPlace) → in_listed_url p (in_list part q) ≡ true → ListedAt p q (Listed part)
part_listed p list.Url DoubleQuoted is = let same = same_places p DoubleQuoted is in record { quoted = rw same refl; attribute_is = refl; same = same }
part_listed p list.Url SingleQuoted is = let same = same_places p SingleQuoted is in record { quoted = rw same refl; attribute_is = refl; same = same }
part_listed p part q is = absurd (false≢true is)

declaration_unlisted : (p : SlotPlace) (part : StylePart) (q : SlotPlace) → in_listed_url p (in_declaration part q) ≡ false
declaration_unlisted p Value DoubleQuoted = refl
declaration_unlisted p Value SingleQuoted = refl
declaration_unlisted p part q = refl

attribute_listed : (p q : SlotPlace) (attribute : Attribute) → in_listed_url p (unless_forbidden attribute q) ≡ true → ListedAt p q attribute
attribute_listed p q (Listed part) is = part_listed p part q is
attribute_listed p q (Declarations part) is = absurd (true≢false (sym is ∙ declaration_unlisted p part q))
attribute_listed p q other is = absurd (false≢true is)

content_listed : (p : SlotPlace) (element : OpenElement) (s : Standing) → in_listed_url p (in_content element s) ≡ true → in_listed_url p s ≡ true
content_listed p NoScript (InUrl q) is = absurd (false≢true is)
content_listed p NoScript s is = absurd (false≢true is)
content_listed p other s is = is

before_unlisted : (p : SlotPlace) (attribute : Attribute) → in_listed_url p (before_value attribute) ≡ false
before_unlisted p Ordinary = refl
before_unlisted p other = refl

code_unlisted : (p : SlotPlace) (opaque literal json : Bool) →
    in_listed_url p (if opaque then Barred else (if literal then InScript else (if json then InJson else Nowhere))) ≡ false
code_unlisted p true literal json = refl
code_unlisted p false true json = refl
code_unlisted p false false true = refl
code_unlisted p false false false = refl

stands_listed : (p : SlotPlace) (s : State) (content : Content) (attribute : Attribute) → in_listed_url p (standing_in s content attribute) ≡ true →
    AtListedUrl p (at_value s content attribute)
stands_listed p (In q) content attribute is =
    let found = attribute_listed p q attribute (content_listed p content.element (unless_forbidden attribute q) is) in
    record { quoted = found.quoted; attribute_is = found.attribute_is; state_is = sym (ap In found.same) }
stands_listed p BeforeValue content attribute is = absurd (true≢false (sym is ∙ before_unlisted p attribute))
stands_listed p (InCode kind) content attribute is =
    absurd (true≢false (sym is ∙ code_unlisted p (is_opaque kind) (takes_literal kind content attribute) (takes_json kind content attribute)))
stands_listed p other content attribute is = absurd (false≢true is)

pub stands_in_list : (p : SlotPlace) (u : Tokenizer) → in_listed_url p (standing u) ≡ true → AtListedUrl p u
stands_in_list p u is = stands_listed p u.state u.content u.attribute is

-- ---- where reading begins

pub no_url_tame : (t : Tokenizer) → is_of_urls t.attribute ≡ false → IsTame t
no_url_tame t none is = absurd (true≢false (sym is ∙ none))

pub no_url_fresh : (t : Tokenizer) (value : List ℕ) → is_of_urls t.attribute ≡ false → IsFresh t value
no_url_fresh t value none is begins = absurd (true≢false (sym is ∙ none))

pub value_tame : (p : SlotPlace) (content : Content) (attribute : Attribute) → is_value_place p ≡ true → IsTame (at_value (In p) content attribute)
value_tame p content attribute place is = place

pub value_fresh : (p : SlotPlace) (content : Content) (attribute : Attribute) (value : List ℕ) → IsFresh (at_value (In p) content attribute) value
value_fresh p content attribute value is begins =
    absurd (false≢true (subst (λ s. in_value p s ≡ true) begins (same_place p)))

place_in : (p : SlotPlace) (s : State) → may_hold_url s ≡ true → is_at p s ≡ true → is_value_place p ≡ true
place_in Unquoted s may at = refl
place_in p (In q) may at = subst (λ x. is_value_place x ≡ true) (sym (same_places p q at)) may
place_in p (Within q word) may at = subst (λ x. is_value_place x ≡ true) (sym (same_places p q at)) may
place_in p other may at = absurd (false≢true at)

pub at_value_place : (p : SlotPlace) (u : Tokenizer) → IsTame u → AtUrl p u → is_value_place p ≡ true
at_value_place p u tame stands = place_in p u.state (tame (of_open u.attribute stands.url_open)) stands.at

-- ---- the bytes before the slot

-- they tell what the URL holds, from the last byte that begins a value at the place
pub open_at_slot : (p : SlotPlace) (t : Tokenizer) (value bytes raw text : List ℕ) → IsTame t → IsFresh t value →
    in_url p (standing (state_after t bytes)) ≡ true → after_last (begins_value p) bytes ≡ Some raw → url_text false raw ≡ Some text →
    open_url t value bytes ≡ text
open_at_slot p t value bytes raw text tame fresh stands last is =
    let here = stands_in_url p (state_after t bytes) stands in
    looks_back p t value bytes raw text (at_value_place p (state_after t bytes) (tame_after t bytes tame) here) tame fresh here.url_open here.at last is

-- the same of a URL of a list
pub open_in_list : (p : SlotPlace) (t : Tokenizer) (value bytes raw text : List ℕ) → IsTame t → IsFresh t value →
    in_listed_url p (standing (state_after t bytes)) ≡ true → after_last (begins_url true p) bytes ≡ Some raw → url_text false raw ≡ Some text →
    open_url t value bytes ≡ text
open_in_list p t value bytes raw text tame fresh stands last is =
    let here = stands_in_list p (state_after t bytes) stands in
    looks_back_list p t value bytes raw text here.quoted tame fresh here.attribute_is (rw here.state_is (inside_at p (In p) (same_place p))) last is
