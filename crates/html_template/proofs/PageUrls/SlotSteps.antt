-- A slot, and what is open behind it.
use Rattle.std.proofs.Common.{ℕ, ◌≡◌, Bool, true, false, List, [], ◌∷◌, Ok, Option, Some, None, refl, ap, ◌∙◌, subst, true≢false, arith}
use Rattle.std.proofs.lemmas.Bool.Decides.{nat_tests}
use Rattle.html_template.specs.declared.open_url.OpenUrl.{OpenUrl}
use Rattle.html_template.specs.declared.open_url.OpenUrl.TheVariants.{Outside, Within, Listed, Whole, Front, Declaration}
use Rattle.html_template.specs.declared.open_url.PlacedSlot.{PlacedSlot}
use Rattle.html_template.specs.declared.parts.SlotKind.{SlotKind}
use Rattle.html_template.specs.declared.parts.SlotKind.TheVariants as kind
use Rattle.html_template.specs.OpenUrls.{before, begun, behind_front, url_slot, within}
use Rattle.html_template.specs.Slots.{past_slot, suits}
use Rattle.html_template.specs.TemplateFaults.{slot_at}
use Rattle.html_template.specs.Templates.{Chunk, Slot}
use Rattle.html_tokenizer.specs.UrlValues.{is_of_urls}
use Rattle.html_tokenizer.specs.declared.reader.Standing.{Standing}
use Rattle.html_tokenizer.specs.declared.reader.Standing.TheVariants.{Stands, InUrl, InLink, InListedUrl, InDeclaration, InScript, InJson, Nowhere, Barred}
use Rattle.html_tokenizer.specs.declared.slot_place.SlotPlace.{SlotPlace}
use Rattle.html_tokenizer.specs.declared.slot_place.SlotPlace.TheVariants as place
use Rattle.html_tokenizer.specs.Standing.{past_json, standing}
use Rattle.html_tokenizer.specs.Tokenizer.States.{In, Ordinary, Tokenizer, at_value}
use Rattle.html_tokenizer.proofs.UrlValues.Slots.AtSlots.{in_listed_url, in_url, no_url_tame, open_at_slot, open_in_list, stands_in_list, stands_in_url}
use Rattle.html_tokenizer.proofs.UrlValues.Attributes.{is_listed, is_open, open_is_listed, open_so}
use Rattle.html_tokenizer.proofs.UrlValues.Bytes.{may_hold_url}
use Rattle.html_tokenizer.proofs.UrlValues.Slots.Tame.{IsTame}
use Rattle.html_urls.specs.Bases.{behind_base}
use Rattle.html_urls.specs.OpenParts.{after_text}
use Rattle.html_urls.specs.declared.base.BehindBase.{BehindBase}
use Rattle.html_urls.specs.declared.base.BehindBase.TheVariants.{Slash, Tail, Segment}
use Rattle.html_urls.specs.declared.open_part.OpenPart.{OpenPart}
use Rattle.html_urls.specs.declared.open_part.OpenPart.TheVariants.{NewSegment}
use Rattle.html_urls.specs.declared.parts.UrlSlot.{UrlSlot}
use Rattle.html_template.proofs.PageUrls.Filled.{GoesBehind, GoesOn, HasLater}
use Rattle.html_template.proofs.PageUrls.OpenEnds.{no_json_stands, no_literal_stands, no_style_stands, no_text_stands}
use Rattle.html_template.proofs.PageUrls.Opening.{FromMarkup, Goes, StandsAt, goes_in_part}
use Rattle.html_template.proofs.PageUrls.Placed.{BehindFront, InPart, IsFirst, first_told, part_told, past_markup, quoted_slot, whole}
use Rattle.html_template.proofs.PageUrls.TextSlots.{json_goes, literal_goes, style_goes, text_goes}
use Rattle.html_template.proofs.PageUrls.UrlSlots.{base_goes, first_goes, later_goes, slot_behind, whole_goes}
use Rattle.html_template.proofs.TemplateLaw.{base_in_url, json_in_block, part_in_url, slot_ordinary, style_in_declaration, whole_in_url}
use Rattle.html_template.proofs.Walks.{before_suits, ok_slot, same_itself}

-- ---- a URL is open behind it only where one is open before it

tame_in : (p : SlotPlace) (t : Tokenizer) → IsTame t → t.state ≡ In p → IsTame (at_value (In p) t.content t.attribute)
tame_in p t tame is = λ of. subst (λ s. may_hold_url s ≡ true) is (tame of)

text_tame : (p : SlotPlace) (t : Tokenizer) → t.attribute ≡ Ordinary → IsTame (at_value (In p) t.content t.attribute)
text_tame p t is = no_url_tame (at_value (In p) t.content t.attribute) (ap is_of_urls is)

tame_of_kind : (kind : SlotKind) (p : SlotPlace) (t : Tokenizer) → IsTame t → suits kind p (standing t) ≡ true → IsTame (past_slot p kind t)
tame_of_kind kind.Text p t tame suited = text_tame p t (slot_ordinary p t.state t.content t.attribute suited)
tame_of_kind (kind.UrlPart slot) p t tame suited = tame_in p t tame (part_in_url slot p t.state t.content t.attribute suited).state_is
tame_of_kind kind.Link p t tame suited = tame_in p t tame (whole_in_url true p t.state t.content t.attribute suited).state_is
tame_of_kind kind.OwnPath p t tame suited = tame_in p t tame (whole_in_url false p t.state t.content t.attribute suited).state_is
tame_of_kind (kind.Base behind) p t tame suited = tame_in p t tame (base_in_url true behind p t.state t.content t.attribute suited).state_is
tame_of_kind (kind.OwnBase behind) p t tame suited = tame_in p t tame (base_in_url false behind p t.state t.content t.attribute suited).state_is
tame_of_kind kind.Literal p t tame suited = tame
tame_of_kind kind.Json p t tame suited = no_url_tame (past_json t) (ap is_of_urls (json_in_block p t.state t.content t.attribute suited).attribute_is)
tame_of_kind kind.StyleValue p t tame suited =
    no_url_tame (at_value (In p) t.content t.attribute) (ap is_of_urls (style_in_declaration p t.state t.content t.attribute suited).attribute_is)

pub tame_behind : (next markup : List ℕ) (url : OpenUrl) (t : Tokenizer) (slot : PlacedSlot) → IsTame t →
    slot_at markup url (standing t) ≡ Ok slot → IsTame (past_slot (before next slot).place (before next slot).kind t)
tame_behind next markup url t slot tame told = grind (arith, nat_tests, tame_of_kind, before_suits)

-- ---- where no URL with a slot is open, and where one is

module _ (t : Tokenizer) (chunks : List Chunk) (tame : IsTame t) where
  -- the pieces from the slot on, if it suits where it stands
  abbrev FromSlot : (List Chunk → Type 0) → PlacedSlot → Type 0
  FromSlot Found slot =
      suits slot.kind slot.place (standing t) ≡ true → Goes slot.url (past_slot slot.place slot.kind t) [] chunks → Found (Slot slot.place slot.kind ∷ chunks)

  -- with what follows it
  abbrev FromBegun : (List Chunk → Type 0) → Option BehindBase → PlacedSlot → Type 0
  FromBegun Found following slot = FromSlot Found (begun slot slot.url following)

  quoted_first : (following : Option BehindBase) (is_followed : Bool) (p : SlotPlace) (value : List ℕ) → value ≡ [] →
      FromBegun (HasLater t value) following (quoted_slot p is_followed)
  quoted_first None true p value none = λ suited goes.
      whole_goes true t p chunks tame suited value none (goes (record { state_is = refl; attribute_is = (whole_in_url true p t.state t.content t.attribute suited).attribute_is }))
  quoted_first None false p value none = λ suited goes.
      whole_goes false t p chunks tame suited value none (goes (record { state_is = refl; attribute_is = (whole_in_url false p t.state t.content t.attribute suited).attribute_is }))
  quoted_first (Some behind) true p value none = λ suited goes.
      base_goes true behind t p chunks tame suited value none
      (goes (record { state_is = refl; attribute_is = (base_in_url true behind p t.state t.content t.attribute suited).attribute_is }))
  quoted_first (Some behind) false p value none = λ suited goes.
      base_goes false behind t p chunks tame suited value none
      (goes (record { state_is = refl; attribute_is = (base_in_url false behind p t.state t.content t.attribute suited).attribute_is }))

  -- the URL is open behind a slot for a part of it, too
  part_open : (listed : Bool) (p : SlotPlace) (part : OpenPart) (found : UrlSlot) → is_listed t.attribute ≡ listed → suits (kind.UrlPart found) p (standing t) ≡ true →
      Goes (within listed p part) (at_value (In p) t.content t.attribute) [] chunks → GoesOn part (at_value (In p) t.content t.attribute) chunks
  part_open listed p part found class suited goes =
      goes_in_part listed p part (at_value (In p) t.content t.attribute) [] chunks goes
      (record {
        state_is = refl;
        attribute_is = subst (λ l. is_open l t.attribute ≡ true) class (open_so t.attribute (part_in_url found p t.state t.content t.attribute suited).attribute_is);
      })

  -- behind markup that adds this text to the URL
  past_front : (listed : Bool) (following : Option BehindBase) (p : SlotPlace) (raw value : List ℕ) (slot : PlacedSlot) → is_listed t.attribute ≡ listed →
      (front : BehindFront listed p raw slot) → value ≡ front.text → FromBegun (HasLater t value) following slot
  past_front true following p raw value slot class front same =
      subst (FromBegun (HasLater t value) following) front.placed.is
      (λ suited goes.
      first_goes t p front.placed.found chunks tame suited front.part front.placed.at
      (part_open true p (after_text front.part) front.placed.found class suited goes) front.text front.adds.plain front.opened value same)
  past_front false following p raw value slot class front same =
      subst (FromBegun (HasLater t value) following) front.placed.is
      (λ suited goes.
      first_goes t p front.placed.found chunks tame suited front.part front.placed.at
      (part_open false p (after_text front.part) front.placed.found class suited goes) front.text front.adds.plain front.opened value same)

  first_slot : (following : Option BehindBase) (p : SlotPlace) (markup value : List ℕ) (slot : PlacedSlot) → in_url p (standing t) ≡ true → FromMarkup t markup value →
      IsFirst false p markup slot → FromBegun (HasLater t value) following slot
  first_slot following p markup value slot stands from (whole is_followed unlisted last is) =
      let stood = rw from.after at stands in
      let none : value ≡ [] = from.is ∙ open_at_slot p from.start from.before markup [] [] from.tame from.fresh stood last refl in
      subst (FromBegun (HasLater t value) following) is (quoted_first following is_followed p value none)
  first_slot following p markup value slot stands from (past_markup raw last front) =
      let stood = rw from.after at stands in
      let same : value ≡ front.text = from.is ∙ open_at_slot p from.start from.before markup raw front.text from.tame from.fresh stood last front.adds.read in
      past_front false following p raw value slot (open_is_listed false t.attribute (stands_in_url p t stands).url_open) front same

  listed_slot : (following : Option BehindBase) (p : SlotPlace) (markup value : List ℕ) (slot : PlacedSlot) → in_listed_url p (standing t) ≡ true → FromMarkup t markup value →
      IsFirst true p markup slot → FromBegun (HasLater t value) following slot
  listed_slot following p markup value slot stands from (whole is_followed unlisted last is) = absurd (true≢false unlisted)
  listed_slot following p markup value slot stands from (past_markup raw last front) =
      let stood = rw from.after at stands in
      let same : value ≡ front.text = from.is ∙ open_in_list p from.start from.before markup raw front.text from.tame from.fresh stood last front.adds.read in
      past_front true following p raw value slot (ap is_listed (stands_in_list p t stands).attribute_is) front same

  url_from_markup : (following : Option BehindBase) (p : SlotPlace) (is_followed : Bool) (markup value : List ℕ) (slot : PlacedSlot) → in_url p (standing t) ≡ true →
      FromMarkup t markup value → url_slot false p is_followed markup Outside ≡ Ok slot → FromBegun (HasLater t value) following slot
  url_from_markup following p is_followed markup value slot stands from told =
      first_slot following p markup value slot stands from (first_told false p is_followed markup slot told)

  from_markup : (following : Option BehindBase) (markup value : List ℕ) (slot : PlacedSlot) (s : Standing) → standing t ≡ s → FromMarkup t markup value →
      slot_at markup Outside s ≡ Ok slot → FromBegun (HasLater t value) following slot
  from_markup following markup value slot (Stands p) is from told =
      subst (FromBegun (HasLater t value) following) (ok_slot told) (λ suited goes. text_goes p t value chunks suited goes)
  from_markup following markup value slot (InUrl p) is from told = url_from_markup following p false markup value slot (rw is (same_itself p)) from told
  from_markup following markup value slot (InLink p) is from told = url_from_markup following p true markup value slot (rw is (same_itself p)) from told
  from_markup following markup value slot (InListedUrl p) is from told =
      listed_slot following p markup value slot (rw is (same_itself p)) from (first_told true p false markup slot told)
  from_markup following markup value slot (InDeclaration p) is from told =
      subst (FromBegun (HasLater t value) following) (ok_slot told) (λ suited goes. style_goes p t value chunks suited goes)
  from_markup following markup value slot InScript is from told =
      subst (FromBegun (HasLater t value) following) (ok_slot told) (λ suited goes. literal_goes place.ScriptDouble t value chunks suited goes)
  from_markup following markup value slot InJson is from told =
      subst (FromBegun (HasLater t value) following) (ok_slot told) (λ suited goes. json_goes place.Text t value chunks suited goes)
  from_markup following markup value slot Nowhere is from told = absurd (cc)
  from_markup following markup value slot Barred is from told = absurd (cc)

  -- in a part of a URL
  url_part : (listed : Bool) (following : Option BehindBase) (p : SlotPlace) (open_part : OpenPart) (slot : PlacedSlot) → is_listed t.attribute ≡ listed →
      InPart listed p open_part slot → FromBegun (GoesOn open_part t) following slot
  url_part true following p open_part slot class placed =
      subst (FromBegun (GoesOn open_part t) following) placed.is
      (λ suited goes. later_goes t p placed.found chunks tame suited open_part placed.at (part_open true p (after_text open_part) placed.found class suited goes))
  url_part false following p open_part slot class placed =
      subst (FromBegun (GoesOn open_part t) following) placed.is
      (λ suited goes. later_goes t p placed.found chunks tame suited open_part placed.at (part_open false p (after_text open_part) placed.found class suited goes))

  in_one : (p : SlotPlace) → in_url p (standing t) ≡ true → is_listed t.attribute ≡ false
  in_one p stands = open_is_listed false t.attribute (stands_in_url p t stands).url_open

  within_part : (following : Option BehindBase) (before : Bool) (q : SlotPlace) (open_part : OpenPart) (markup : List ℕ) (slot : PlacedSlot) (s : Standing) → standing t ≡ s →
      StandsAt before q t → slot_at markup (within before q open_part) s ≡ Ok slot → FromBegun (GoesOn open_part t) following slot
  within_part following before q open_part markup slot (Stands p) is stands told = absurd (no_text_stands before q p t is stands)
  within_part following true q open_part markup slot (InUrl p) is stands told =
      url_part false following p open_part slot (in_one p (rw is (same_itself p))) (part_told false p open_part slot told)
  within_part following false q open_part markup slot (InUrl p) is stands told =
      url_part false following p open_part slot (in_one p (rw is (same_itself p))) (part_told false p open_part slot told)
  within_part following true q open_part markup slot (InLink p) is stands told =
      url_part false following p open_part slot (in_one p (rw is (same_itself p))) (part_told false p open_part slot told)
  within_part following false q open_part markup slot (InLink p) is stands told =
      url_part false following p open_part slot (in_one p (rw is (same_itself p))) (part_told false p open_part slot told)
  within_part following true q open_part markup slot (InListedUrl p) is stands told =
      url_part true following p open_part slot (ap is_listed (stands_in_list p t (rw is (same_itself p))).attribute_is) (part_told true p open_part slot told)
  within_part following false q open_part markup slot (InListedUrl p) is stands told =
      url_part true following p open_part slot (ap is_listed (stands_in_list p t (rw is (same_itself p))).attribute_is) (part_told true p open_part slot told)
  within_part following before q open_part markup slot (InDeclaration p) is stands told = absurd (no_style_stands before q p t is stands)
  within_part following before q open_part markup slot InScript is stands told = absurd (no_literal_stands before q t is stands)
  within_part following before q open_part markup slot InJson is stands told = absurd (no_json_stands before q t is stands)
  within_part following before q open_part markup slot Nowhere is stands told = absurd (cc)
  within_part following before q open_part markup slot Barred is stands told = absurd (cc)

  -- behind a base that ends in `/`
  url_behind : (following : Option BehindBase) (p : SlotPlace) (behind : BehindBase) (slot : PlacedSlot) → is_listed t.attribute ≡ false →
      behind_front p behind ≡ Ok slot → FromBegun (GoesBehind behind t) following slot
  url_behind following p Slash slot class told = absurd (cc)
  url_behind following p Tail slot class told = absurd (cc)
  url_behind following p Segment slot class told =
      let placed = part_told false p NewSegment slot told in
      subst (FromBegun (GoesBehind Segment t) following) placed.is
      (λ suited goes. slot_behind t p placed.found chunks tame suited placed.at (part_open false p (after_text NewSegment) placed.found class suited goes))

  behind_a_base : (following : Option BehindBase) (q : SlotPlace) (behind : BehindBase) (markup : List ℕ) (slot : PlacedSlot) (s : Standing) → standing t ≡ s →
      StandsAt false q t → slot_at markup (Front q behind) s ≡ Ok slot → FromBegun (GoesBehind behind t) following slot
  behind_a_base following q behind markup slot (Stands p) is stands told = absurd (no_text_stands false q p t is stands)
  behind_a_base following q behind markup slot (InUrl p) is stands told = url_behind following p behind slot (open_is_listed false t.attribute stands.attribute_is) told
  behind_a_base following q behind markup slot (InLink p) is stands told = url_behind following p behind slot (open_is_listed false t.attribute stands.attribute_is) told
  behind_a_base following q behind markup slot (InListedUrl p) is stands told = url_behind following p behind slot (open_is_listed false t.attribute stands.attribute_is) told
  behind_a_base following q behind markup slot (InDeclaration p) is stands told = absurd (no_style_stands false q p t is stands)
  behind_a_base following q behind markup slot InScript is stands told = absurd (no_literal_stands false q t is stands)
  behind_a_base following q behind markup slot InJson is stands told = absurd (no_json_stands false q t is stands)
  behind_a_base following q behind markup slot Nowhere is stands told = absurd (cc)
  behind_a_base following q behind markup slot Barred is stands told = absurd (cc)

  -- behind a slot in a declaration, as where nothing is open
  in_style : (following : Option BehindBase) (q : SlotPlace) (markup value : List ℕ) (slot : PlacedSlot) (s : Standing) → standing t ≡ s → FromMarkup t markup value →
      slot_at markup (Declaration q) s ≡ Ok slot → FromBegun (HasLater t value) following slot
  in_style following q markup value slot (InUrl p) is from told = absurd (cc)
  in_style following q markup value slot (InLink p) is from told = absurd (cc)
  in_style following q markup value slot (InListedUrl p) is from told = absurd (cc)
  in_style following q markup value slot (Stands p) is from told = from_markup following markup value slot (Stands p) is from told
  in_style following q markup value slot (InDeclaration p) is from told = from_markup following markup value slot (InDeclaration p) is from told
  in_style following q markup value slot InScript is from told = from_markup following markup value slot InScript is from told
  in_style following q markup value slot InJson is from told = from_markup following markup value slot InJson is from told
  in_style following q markup value slot Nowhere is from told = absurd (cc)
  in_style following q markup value slot Barred is from told = absurd (cc)

-- ---- where anything is open

pub slot_goes : (next markup : List ℕ) (url : OpenUrl) (t : Tokenizer) (slot : PlacedSlot) (chunks : List Chunk) → IsTame t →
    slot_at markup url (standing t) ≡ Ok slot → Goes (before next slot).url (past_slot (before next slot).place (before next slot).kind t) [] chunks →
    Goes url t markup (Slot (before next slot).place (before next slot).kind ∷ chunks)
slot_goes next markup Outside t slot chunks tame told goes = λ value from.
    from_markup t chunks tame (behind_base next) markup value slot (standing t) refl from told (before_suits next markup Outside (standing t) slot told).suited goes
slot_goes next markup (Within p open_part) t slot chunks tame told goes = λ stands.
    within_part t chunks tame (behind_base next) false p open_part markup slot (standing t) refl stands told
    (before_suits next markup (Within p open_part) (standing t) slot told).suited goes
slot_goes next markup (Listed p open_part) t slot chunks tame told goes = λ stands.
    within_part t chunks tame (behind_base next) true p open_part markup slot (standing t) refl stands told
    (before_suits next markup (Listed p open_part) (standing t) slot told).suited goes
slot_goes next markup (Whole p) t slot chunks tame told goes = grind (arith, nat_tests)
slot_goes next markup (Front p behind) t slot chunks tame told goes = grind (arith, nat_tests, behind_a_base, before_suits)
slot_goes next markup (Declaration p) t slot chunks tame told goes = λ value from.
    in_style t chunks tame (behind_base next) p markup value slot (standing t) refl from told (before_suits next markup (Declaration p) (standing t) slot told).suited goes
