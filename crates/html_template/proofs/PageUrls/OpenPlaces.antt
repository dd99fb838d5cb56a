-- Where a URL with slots is open, the tokenizer is in its value.
use Rattle.std.proofs.Common.{ℕ, ◌≡◌, drop, ◌||◌, ◌==◌, if◌then◌else◌, Bool, true, false, List, [], ◌∷◌, Ok, Err, Option, ⊎_elim, length, take, nat_lt, refl, ◌∙◌, sym, subst, arith, inl, inr}
use Rattle.std.specs.Prelude.{⊤}
use Rattle.std.proofs.lemmas.Bool.{cases_Bool, true≢false}
use Rattle.std.proofs.lemmas.Bool.Decides.{nat_tests}
use Rattle.hesc_specs.specs.Text.Ascii.{semicolon}
use Rattle.html_template.specs.declared.faults.PartFault.TheVariants.{AfterStyleValue}
use Rattle.html_template.specs.declared.open_url.OpenUrl.{OpenUrl}
use Rattle.html_template.specs.declared.open_url.OpenUrl.TheVariants.{Outside, Within, Listed, Whole, Front, Declaration}
use Rattle.html_template.specs.declared.open_url.PlacedSlot.{PlacedSlot}
use Rattle.html_template.specs.declared.parts.SlotKind.TheVariants as kind
use Rattle.html_template.specs.OpenUrls.{before, begun, behind_front, behind_value, ends_listed, part_markup, url_length, url_markup, url_slot, within}
use Rattle.html_template.specs.Slots.{is_quoted, past_slot}
use Rattle.html_template.specs.TemplateFaults.{slot_at}
use Rattle.html_tokenizer.specs.declared.elements.Content.{Content}
use Rattle.html_tokenizer.specs.declared.reader.Standing.{Standing}
use Rattle.html_tokenizer.specs.declared.reader.Standing.TheVariants.{Stands, InUrl, InLink, InListedUrl, InDeclaration, InScript, InJson, Nowhere, Barred}
use Rattle.html_tokenizer.specs.declared.states.StylePart.{StylePart}
use Rattle.html_tokenizer.specs.declared.states.StylePart.TheVariants.{Value}
use Rattle.html_tokenizer.specs.Declarations.{bang, is_style_byte}
use Rattle.html_tokenizer.specs.Tokenizer.Attributes.StyleParts.{declarations_read}
use Rattle.html_tokenizer.specs.declared.slot_place.SlotPlace.{SlotPlace}
use Rattle.html_tokenizer.specs.declared.slot_place.SlotPlace.TheVariants.{DoubleQuoted, SingleQuoted}
use Rattle.html_tokenizer.specs.Standing.{is_refused, may_end, standing}
use Rattle.html_tokenizer.specs.Tokenizer.States.{Attribute, Declarations, In, Tokenizer, at_value}
use Rattle.html_tokenizer.specs.Tokenizer.Tokenization.{state_after}
use Rattle.html_tokenizer.specs.UrlValues.{closes_url, ends_value}
use Rattle.html_tokenizer.proofs.Slots.Declarations.{style_byte_read}
use Rattle.html_tokenizer.proofs.UrlValues.Places.{is_in_quotes, is_value_place}
use Rattle.html_tokenizer.proofs.UrlValues.Reading.{reads_on}
use Rattle.html_tokenizer.proofs.UrlValues.Attributes.{is_open}
use Rattle.html_tokenizer.proofs.UrlValues.Slots.AtSlots.{stands_in_list, stands_in_url}
use Rattle.html_tokenizer.proofs.UrlValues.Slots.Tame.{IsTame}
use Rattle.html_urls.specs.Bases.{behind_base}
use Rattle.html_urls.specs.OpenParts.{after_text}
use Rattle.html_urls.specs.declared.base.BehindBase.{BehindBase}
use Rattle.html_urls.specs.declared.base.BehindBase.TheVariants.{Slash, Tail, Segment}
use Rattle.html_urls.specs.declared.open_part.OpenPart.{OpenPart}
use Rattle.html_urls.specs.declared.open_part.OpenPart.TheVariants.{NewSegment}
use Rattle.html_template.proofs.PageUrls.LaterMarkup.{as_told, base_told, behind_told, goes_on, is_ended, ok_url, uncut_told}
use Rattle.html_template.proofs.PageUrls.Opening.{StandsAt, value_place}
use Rattle.html_template.proofs.PageUrls.Placed.{InPart, IsFirst, first_told, part_told, past_markup, whole}
use Rattle.html_template.proofs.Walks.{ok_slot, same_itself}
use Rattle.html_template.proofs.TemplateLaw.{style_in_declaration}
use Rattle.html_template.proofs.PageUrls.Splitting.{whole_or_cut}

-- behind a slot in a declaration the tokenizer is in the value of a `style`
pub record InStyle (p : SlotPlace) (t : Tokenizer) : Type 0 where
  pub part : StylePart
  pub state_is : t.state ≡ In p
  pub attribute_is : t.attribute ≡ Declarations part
  pub quoted : is_in_quotes p ≡ true

abbrev pub OpenStands : OpenUrl → Tokenizer → Type 0
OpenStands Outside t = ⊤
OpenStands (Within p part) t = StandsAt false p t
OpenStands (Listed p part) t = StandsAt true p t
OpenStands (Whole p) t = StandsAt false p t
OpenStands (Front p behind) t = StandsAt false p t
OpenStands (Declaration p) t = InStyle p t

-- so none is open where a template may end
pub none_open : (url : OpenUrl) (t : Tokenizer) → IsTame t → may_end t ≡ true → OpenStands url t → url ≡ Outside
none_open url t tame may stands = grind (arith, nat_tests)

-- ---- behind markup

stands_within : (listed : Bool) (p : SlotPlace) (part : OpenPart) (t : Tokenizer) → StandsAt listed p t → OpenStands (within listed p part) t
stands_within true p part t stands = stands
stands_within false p part t stands = stands

part_stands : (listed : Bool) (p : SlotPlace) (content : Content) (attribute : Attribute) → is_value_place p ≡ true → is_open listed attribute ≡ true →
    (part : OpenPart) (bytes : List ℕ) (opened : OpenUrl) → is_refused (state_after (at_value (In p) content attribute) bytes).state ≡ false →
    part_markup listed p part bytes ≡ Ok opened → OpenStands opened (state_after (at_value (In p) content attribute) bytes)
part_stands listed p content attribute place url part bytes opened unrefused told =
    let here : Tokenizer = at_value (In p) content attribute in
    elim (whole_or_cut (closes_url listed p) bytes) [
      | inl uncut ↦ let end = uncut.end in
          let all_of_it : nat_lt (url_length listed p bytes) (length bytes) ≡ false = grind (arith, nat_tests) in
          let behind = behind_told listed p part false bytes opened (rw (all_of_it, uncut.all) at told) in
          let reads = reads_on listed p content attribute bytes behind.text place url uncut.none behind.adds.read unrefused in
          subst (λ (x : OpenUrl). OpenStands x (state_after here bytes)) (goes_on listed p behind.after opened behind.told)
          (stands_within listed p behind.after (state_after here bytes)
          (subst (StandsAt listed p) (sym reads.stays.passes.after) (record { state_is = refl; attribute_is = reads.url_open })))
      | inr cut ↦ let within = cut.within in
          let ends : nat_lt (url_length listed p bytes) (length bytes) ≡ true = grind (arith, nat_tests) in
          let behind = behind_told listed p part true (take (url_length listed p bytes) bytes) opened (rw ends at told) in
          subst (λ (x : OpenUrl). OpenStands x (state_after here bytes)) (is_ended listed p behind.after opened behind.told).outside tt
    ]

module _ (p : SlotPlace) (content : Content) (attribute : Attribute) (place : is_value_place p ≡ true) (url : is_open false attribute ≡ true) where
  abbrev here : Tokenizer
  here = at_value (In p) content attribute

  base_stands : (behind : BehindBase) (bytes : List ℕ) (opened : OpenUrl) → is_refused (state_after here bytes).state ≡ false →
      url_markup (Front p behind) bytes ≡ Ok opened → OpenStands opened (state_after here bytes)
  base_stands behind bytes opened unrefused told =
      elim (whole_or_cut (closes_url false p) bytes) [
        | inl uncut ↦ let end = uncut.end in
            let all_of_it : nat_lt (url_length false p bytes) (length bytes) ≡ false = grind (arith, nat_tests) in
            let front = base_told p behind false bytes opened (rw (all_of_it, uncut.all) at told) in
            let reads = reads_on false p content attribute bytes front.text place url uncut.none front.adds.read unrefused in
            let stands : StandsAt false p (state_after here bytes) =
            subst (StandsAt false p) (sym reads.stays.passes.after) (record { state_is = refl; attribute_is = reads.url_open }) in
            elim (front.how) [ inl slash ↦ subst (λ (x : OpenUrl). OpenStands x (state_after here bytes)) slash.told stands | inr on ↦ subst (λ (x : OpenUrl). OpenStands x (state_after here bytes)) (goes_on false p on.after opened on.told) stands ]
        | inr cut ↦ let within = cut.within in
            let ends : nat_lt (url_length false p bytes) (length bytes) ≡ true = grind (arith, nat_tests) in
            let front = base_told p behind true (take (url_length false p bytes) bytes) opened (rw ends at told) in
            elim (front.how) [ inl slash ↦ absurd (true≢false slash.open_still) | inr on ↦ subst (λ (x : OpenUrl). OpenStands x (state_after here bytes)) (is_ended false p on.after opened on.told).outside tt ]
      ]

  whole_stands : (bytes : List ℕ) (opened : OpenUrl) → url_markup (Whole p) bytes ≡ Ok opened → OpenStands opened (state_after here bytes)
  whole_stands bytes opened told = grind (arith, nat_tests)

-- a declaration is open still, or no more
value_stands : (p : SlotPlace) (content : Content) (part : StylePart) (bytes : List ℕ) (opened : OpenUrl) → is_in_quotes p ≡ true →
    behind_value p bytes ≡ Ok opened → OpenStands opened (state_after (at_value (In p) content (Declarations part)) bytes)
value_stands p content part [] opened quoted told =
    subst (λ (x : OpenUrl). OpenStands x (at_value (In p) content (Declarations part))) (ok_url told)
    (record { part = part; state_is = refl; attribute_is = refl; quoted = quoted })
value_stands p content part (b ∷ bytes) opened quoted told =
    let here : Tokenizer = at_value (In p) content (Declarations part) in
    ⊎_elim
    (λ (ends : (b == semicolon || ends_value p b) ≡ true).
    subst (λ (x : OpenUrl). OpenStands x (state_after here (b ∷ bytes))) (ok_url (rw ends at told)) tt)
    (λ (on : (b == semicolon || ends_value p b) ≡ false).
    let later : (if is_style_byte b || b == bang then behind_value p bytes else Err AfterStyleValue) ≡ Ok opened = rw on at told in
    ⊎_elim
    (λ (plain : (is_style_byte b || b == bang) ≡ true).
    subst (λ (x : Tokenizer). OpenStands opened (state_after x bytes)) (sym (style_byte_read p content part b quoted plain))
    (value_stands p content (declarations_read part b) bytes opened quoted (rw plain at later)))
    (λ (other : (is_style_byte b || b == bang) ≡ false). let clash : Err AfterStyleValue ≡ as_told opened = rw other at later in absurd (cc))
    (cases_Bool (is_style_byte b || b == bang)))
    (cases_Bool (b == semicolon || ends_value p b))

pub markup_stands : (before : OpenUrl) (t : Tokenizer) (bytes : List ℕ) (opened : OpenUrl) → IsTame t →
    is_refused (state_after t bytes).state ≡ false → url_markup before bytes ≡ Ok opened → OpenStands before t → OpenStands opened (state_after t bytes)
markup_stands Outside t bytes opened tame unrefused told stands =
    subst (λ (x : OpenUrl). OpenStands x (state_after t bytes)) (ok_url told) tt
markup_stands (Within p part) t bytes opened tame unrefused told stands =
    subst (λ s. OpenStands opened (state_after (at_value s t.content t.attribute) bytes)) (sym stands.state_is)
    (part_stands false p t.content t.attribute (value_place false p t tame stands) stands.attribute_is part bytes opened
    (subst (λ s. is_refused (state_after (at_value s t.content t.attribute) bytes).state ≡ false) stands.state_is unrefused) told)
markup_stands (Listed p part) t bytes opened tame unrefused told stands =
    subst (λ s. OpenStands opened (state_after (at_value s t.content t.attribute) bytes)) (sym stands.state_is)
    (part_stands true p t.content t.attribute (value_place true p t tame stands) stands.attribute_is part bytes opened
    (subst (λ s. is_refused (state_after (at_value s t.content t.attribute) bytes).state ≡ false) stands.state_is unrefused)
    (uncut_told p part bytes opened (ends_listed p (drop (url_length true p bytes) bytes)) told))
markup_stands (Whole p) t bytes opened tame unrefused told stands =
    subst (λ s. OpenStands opened (state_after (at_value s t.content t.attribute) bytes)) (sym stands.state_is)
    (whole_stands p t.content t.attribute (value_place false p t tame stands) stands.attribute_is bytes opened told)
markup_stands (Front p behind) t bytes opened tame unrefused told stands =
    subst (λ s. OpenStands opened (state_after (at_value s t.content t.attribute) bytes)) (sym stands.state_is)
    (base_stands p t.content t.attribute (value_place false p t tame stands) stands.attribute_is behind bytes opened
    (subst (λ s. is_refused (state_after (at_value s t.content t.attribute) bytes).state ≡ false) stands.state_is unrefused) told)
markup_stands (Declaration p) t bytes opened tame unrefused told stands =
    subst (λ s. OpenStands opened (state_after (at_value s t.content t.attribute) bytes)) (sym stands.state_is)
    (subst (λ a. OpenStands opened (state_after (at_value (In p) t.content a) bytes)) (sym stands.attribute_is)
    (value_stands p t.content stands.part bytes opened stands.quoted told))

-- ---- behind a slot

-- a slot in a URL leaves that URL open
abbrev OpensUrl : Bool → PlacedSlot → Type 0
OpensUrl listed slot = (t : Tokenizer) → is_open listed t.attribute ≡ true → OpenStands slot.url (past_slot slot.place slot.kind t)

part_opens : (listed : Bool) (p : SlotPlace) (part : OpenPart) (slot : PlacedSlot) → InPart listed p part slot → OpensUrl listed slot
part_opens listed p part slot placed =
    subst (OpensUrl listed) placed.is
    (λ t url. stands_within listed p (after_text part) (at_value (In p) t.content t.attribute) (record { state_is = refl; attribute_is = url }))

first_opens : (listed : Bool) (p : SlotPlace) (markup : List ℕ) (slot : PlacedSlot) → IsFirst listed p markup slot → OpensUrl listed slot
first_opens listed p markup slot (whole true none last is) =
    subst (OpensUrl listed) is (λ t url. record { state_is = refl; attribute_is = subst (λ l. is_open l t.attribute ≡ true) none url })
first_opens listed p markup slot (whole false none last is) =
    subst (OpensUrl listed) is (λ t url. record { state_is = refl; attribute_is = subst (λ l. is_open l t.attribute ≡ true) none url })
first_opens listed p markup slot (past_markup raw last front) = part_opens listed p front.part slot front.placed

base_opens : (p : SlotPlace) (behind : BehindBase) (slot : PlacedSlot) → behind_front p behind ≡ Ok slot → OpensUrl false slot
base_opens p Segment slot told = part_opens false p NewSegment slot (part_told false p NewSegment slot told)
base_opens p Slash slot told = absurd (cc)
base_opens p Tail slot told = absurd (cc)

url_opens : (listed : Bool) (p : SlotPlace) (is_followed : Bool) (markup : List ℕ) (url : OpenUrl) (slot : PlacedSlot) →
    url_slot listed p is_followed markup url ≡ Ok slot → (t : Tokenizer) → is_open listed t.attribute ≡ true → OpenStands url t →
    OpenStands slot.url (past_slot slot.place slot.kind t)
url_opens listed p is_followed markup Outside slot told t url stands = first_opens listed p markup slot (first_told listed p is_followed markup slot told) t url
url_opens listed p is_followed markup (Within q part) slot told t url stands = part_opens listed p part slot (part_told listed p part slot told) t url
url_opens listed p is_followed markup (Listed q part) slot told t url stands = part_opens listed p part slot (part_told listed p part slot told) t url
url_opens listed p is_followed markup (Whole q) slot told t url stands = absurd (cc)
url_opens listed p is_followed markup (Front q behind) slot told t url stands = base_opens p behind slot told t stands.attribute_is
url_opens listed p is_followed markup (Declaration q) slot told t url stands = absurd (cc)

-- one in a declaration leaves that open
same_quotes : (p : SlotPlace) → is_in_quotes p ≡ is_quoted p
same_quotes DoubleQuoted = refl
same_quotes SingleQuoted = refl
same_quotes other = refl

style_opens : (p : SlotPlace) (t : Tokenizer) → standing t ≡ InDeclaration p → OpenStands (Declaration p) (past_slot p kind.StyleValue t)
style_opens p t is =
    let here = style_in_declaration p t.state t.content t.attribute (rw is (same_itself p)) in
    record { part = Value; state_is = refl; attribute_is = here.attribute_is; quoted = same_quotes p ∙ here.quoted }

placed_stands : (markup : List ℕ) (url : OpenUrl) (t : Tokenizer) (s : Standing) (slot : PlacedSlot) → standing t ≡ s →
    slot_at markup url s ≡ Ok slot → OpenStands url t → OpenStands slot.url (past_slot slot.place slot.kind t)
placed_stands markup url t (Stands p) slot is told stands = subst (λ (x : PlacedSlot). OpenStands x.url (past_slot x.place x.kind t)) (ok_slot told) tt
placed_stands markup url t (InUrl p) slot is told stands =
    url_opens false p false markup url slot told t (stands_in_url p t (rw is (same_itself p))).url_open stands
placed_stands markup url t (InLink p) slot is told stands =
    url_opens false p true markup url slot told t (stands_in_url p t (rw is (same_itself p))).url_open stands
placed_stands markup url t (InListedUrl p) slot is told stands =
    url_opens true p false markup url slot told t (rw (stands_in_list p t (rw is (same_itself p))).attribute_is refl) stands
placed_stands markup url t (InDeclaration p) slot is told stands =
    subst (λ (x : PlacedSlot). OpenStands x.url (past_slot x.place x.kind t)) (ok_slot told) (style_opens p t is)
placed_stands markup url t InScript slot is told stands = subst (λ (x : PlacedSlot). OpenStands x.url (past_slot x.place x.kind t)) (ok_slot told) tt
placed_stands markup url t InJson slot is told stands = subst (λ (x : PlacedSlot). OpenStands x.url (past_slot x.place x.kind t)) (ok_slot told) tt
placed_stands markup url t Nowhere slot is told stands = absurd (cc)
placed_stands markup url t Barred slot is told stands = absurd (cc)

-- also where it is a base
begun_stands : (t : Tokenizer) (slot : PlacedSlot) (url : OpenUrl) (following : Option BehindBase) → slot.url ≡ url →
    OpenStands slot.url (past_slot slot.place slot.kind t) → OpenStands (begun slot url following).url (past_slot (begun slot url following).place (begun slot url following).kind t)
begun_stands t slot url following is stands = grind (arith, nat_tests)

pub slot_stands : (next markup : List ℕ) (url : OpenUrl) (t : Tokenizer) (s : Standing) (slot : PlacedSlot) → standing t ≡ s →
    slot_at markup url s ≡ Ok slot → OpenStands url t → OpenStands (before next slot).url (past_slot (before next slot).place (before next slot).kind t)
slot_stands next markup url t s slot is told stands = begun_stands t slot slot.url (behind_base next) refl (placed_stands markup url t s slot is told stands)
