-- The running walk at a slot.
use Rattle.std.proofs.Common.{ℕ, ◌≡◌, ◌≤◌, ◌+◌, Bool, true, false, List, [], ◌∷◌, Option, Some, None, Result, Ok, length, arith, refl, sym, ap, subst, ◌∙◌}
use Rattle.std.proofs.lemmas.Bool.Decides.{nat_tests}
use Rattle.html_template.specs.declared.faults.PartFault.{PartFault}
use Rattle.html_template.specs.declared.open_url.OpenUrl.{OpenUrl}
use Rattle.html_template.specs.declared.open_url.OpenUrl.TheVariants.{Outside, Within, Listed, Whole, Front, Declaration}
use Rattle.html_template.specs.declared.open_url.PlacedSlot.{PlacedSlot}
use Rattle.html_template.specs.OpenUrls.{before, begun, behind_front, behind_text, first_slot, in_part, open_at, plain_text, url_slot, whole_slot}
use Rattle.html_template.specs.Slots.{after_slot, base_kind, past_slot, suits}
use Rattle.html_template.specs.TemplateFaults.{Walk, next_markup, pieces_from, put_slot, slot_at}
use Rattle.html_template.specs.declared.parts.SlotKind.{SlotKind}
use Rattle.html_template.specs.Templates.{Given, GivenSlot}
use Rattle.html_tokenizer.specs.declared.reader.Standing.{Standing}
use Rattle.html_tokenizer.specs.declared.reader.Standing.TheVariants.{Stands, InUrl, InLink, InListedUrl, InDeclaration, InScript, InJson, Nowhere, Barred}
use Rattle.html_tokenizer.specs.declared.slot_place.SlotPlace.{SlotPlace}
use Rattle.html_tokenizer.specs.Standing.{AfterStanding, is_same, standing, state_after_slot, stands}
use Rattle.html_tokenizer.specs.Tokenizer.States.{In, Tokenizer, at_value}
use Rattle.html_tokenizer.specs.UrlValues.{after_last, begins_url}
use Rattle.html_urls.specs.declared.base.BehindBase.{BehindBase}
use Rattle.html_urls.specs.declared.open_part.OpenPart.{OpenPart}

pub same_itself : (p : SlotPlace) → is_same p p ≡ true
same_itself p = grind (arith, nat_tests)

abbrev url_standing : Bool → Bool → SlotPlace → Standing
url_standing true is_followed p = InListedUrl p
url_standing false true p = InLink p
url_standing false false p = InUrl p

-- the slot stands at this place, in a URL
record IsInUrl (listed is_followed : Bool) (p : SlotPlace) (slot : PlacedSlot) : Type 0 where
  place : slot.place ≡ p
  suited : suits slot.kind p (url_standing listed is_followed p) ≡ true

abbrev as_told : PlacedSlot → Result PlacedSlot PartFault
as_told slot = Ok slot

pub ok_slot : {first second : PlacedSlot} → as_told first ≡ as_told second → first ≡ second
ok_slot same = cc

module _ (listed is_followed : Bool) (p : SlotPlace) where
  open_suits : (part : Option OpenPart) (slot : PlacedSlot) → in_part listed p part ≡ Ok slot → IsInUrl listed is_followed p slot
  open_suits part slot told = grind (arith, nat_tests)

  text_suits : (text : Option (List ℕ)) (slot : PlacedSlot) → behind_text listed p is_followed text ≡ Ok slot → IsInUrl listed is_followed p slot
  text_suits None slot told = absurd (cc)
  text_suits (Some text) slot told = open_suits (open_at is_followed text) slot told

  whole_suits : (slot : PlacedSlot) → whole_slot listed p is_followed ≡ Ok slot → IsInUrl listed is_followed p slot
  whole_suits slot told = grind (arith, nat_tests)

  front_suits : (markup : Option (List ℕ)) (slot : PlacedSlot) → first_slot listed p is_followed markup ≡ Ok slot → IsInUrl listed is_followed p slot
  front_suits None slot told = absurd (cc)
  front_suits (Some []) slot told = whole_suits slot told
  front_suits (Some (b ∷ markup)) slot told = text_suits (plain_text false (b ∷ markup)) slot told

  base_suits : (behind : BehindBase) (slot : PlacedSlot) → behind_front p behind ≡ Ok slot → IsInUrl listed is_followed p slot
  base_suits behind slot told = grind (arith, nat_tests)

  url_suits : (markup : List ℕ) (url : OpenUrl) (slot : PlacedSlot) → url_slot listed p is_followed markup url ≡ Ok slot → IsInUrl listed is_followed p slot
  url_suits markup Outside slot told = front_suits (after_last (begins_url listed p) markup) slot told
  url_suits markup (Within q part) slot told = open_suits (Some part) slot told
  url_suits markup (Listed q part) slot told = open_suits (Some part) slot told
  url_suits markup (Whole q) slot told = absurd (cc)
  url_suits markup (Front q behind) slot told = base_suits behind slot told
  url_suits markup (Declaration q) slot told = absurd (cc)

-- where the markup is not empty
pub some_front : (listed : Bool) (p : SlotPlace) (is_followed : Bool) (markup : List ℕ) → 1 ≤ length markup →
    first_slot listed p is_followed (Some markup) ≡ behind_text listed p is_followed (plain_text false markup)
some_front listed p is_followed markup some = grind (arith, nat_tests)

abbrev pub in_script : Standing → Bool
in_script InScript = true
in_script InJson = true
in_script other = false

-- a slot that is told suits where it stands, which is its place, or in a script
pub record IsSuited (s : Standing) (slot : PlacedSlot) : Type 0 where
  pub suited : suits slot.kind slot.place s ≡ true
  pub stood : in_script s ≡ false → stands slot.place s ≡ true

in_url_suited : (listed is_followed : Bool) (p : SlotPlace) (slot : PlacedSlot) → IsInUrl listed is_followed p slot → IsSuited (url_standing listed is_followed p) slot
in_url_suited listed is_followed p slot is = grind (arith, nat_tests)

pub slot_suits : (markup : List ℕ) (url : OpenUrl) (s : Standing) (slot : PlacedSlot) →
    slot_at markup url s ≡ Ok slot → IsSuited s slot
slot_suits markup url (Stands p) slot told =
    subst (IsSuited (Stands p)) (ok_slot told) (record { suited = same_itself p; stood = λ outside. same_itself p })
slot_suits markup url (InUrl p) slot told = in_url_suited false false p slot (url_suits false false p markup url slot told)
slot_suits markup url (InLink p) slot told = in_url_suited false true p slot (url_suits false true p markup url slot told)
slot_suits markup url (InListedUrl p) slot told = in_url_suited true false p slot (url_suits true false p markup url slot told)
slot_suits markup url (InDeclaration p) slot told =
    subst (IsSuited (InDeclaration p)) (ok_slot told) (record { suited = same_itself p; stood = λ outside. same_itself p })
slot_suits markup url InScript slot told =
    subst (IsSuited InScript) (ok_slot told) (record { suited = refl; stood = λ outside. absurd (cc) })
slot_suits markup url InJson slot told =
    subst (IsSuited InJson) (ok_slot told) (record { suited = refl; stood = λ outside. absurd (cc) })
slot_suits markup url Barred slot told = absurd (cc)
slot_suits markup url Nowhere slot told = absurd (cc)

-- as a base it stands where it stood
pub base_stands : (behind : BehindBase) (k : SlotKind) (p : SlotPlace) (s : Standing) → suits (base_kind behind k) p s ≡ suits k p s
base_stands behind k p s = grind (arith, nat_tests)

pub past_base : (behind : BehindBase) (kind : SlotKind) (p : SlotPlace) (t : Tokenizer) → past_slot p kind t ≡ past_slot p (base_kind behind kind) t
past_base behind kind p t = grind (arith, nat_tests)

begun_suits : (s : Standing) (slot : PlacedSlot) (url : OpenUrl) (following : Option BehindBase) → IsSuited s slot → IsSuited s (begun slot url following)
begun_suits s slot url following is = grind (arith, nat_tests)

pub before_suits : (next markup : List ℕ) (url : OpenUrl) (s : Standing) (slot : PlacedSlot) →
    slot_at markup url s ≡ Ok slot → IsSuited s (before next slot)
before_suits next markup url s slot told = begun_suits s slot slot.url _ (slot_suits markup url s slot told)

pub same_place : (p q : SlotPlace) → is_same p q ≡ true → p ≡ q
same_place p q is = grind (arith, nat_tests)

placed_at : (s : Standing) (p : SlotPlace) (old new : Tokenizer) → stands p s ≡ true → AfterStanding s old new → new ≡ state_after_slot p old
placed_at s p old new stood after = grind (arith, nat_tests)

-- a slot that stands in its place is no string literal, and no JSON
past_in_place : (kind : SlotKind) (p : SlotPlace) (s : Standing) (t : Tokenizer) → suits kind p s ≡ true → stands p s ≡ true →
    past_slot p kind t ≡ at_value (In p) t.content t.attribute
past_in_place kind p s t suited stood = grind (arith, nat_tests)

-- the tokenizer goes on behind it as the definition says
pub same_after_slot : (next markup : List ℕ) (url : OpenUrl) (s : Standing) (slot : PlacedSlot) (old new : Tokenizer) →
    slot_at markup url s ≡ Ok slot → s ≡ standing old → AfterStanding s old new → new ≡ after_slot (before next slot).place (before next slot).kind old
same_after_slot next markup url InScript slot old new told same after =
    subst (λ (x : PlacedSlot). new ≡ after_slot (before next x).place (before next x).kind old) (ok_slot told) (after ∙ rw (sym same) refl)
same_after_slot next markup url InJson slot old new told same after =
    subst (λ (x : PlacedSlot). new ≡ after_slot (before next x).place (before next x).kind old) (ok_slot told) (after ∙ rw (sym same) refl)
same_after_slot next markup url s slot old new told same after =
    let here : PlacedSlot = before next slot in
    let is = before_suits next markup url s slot told in
    let suited : suits here.kind here.place (standing old) ≡ true = ap (suits here.kind here.place) (sym same) ∙ is.suited in
    let stood : stands here.place (standing old) ≡ true = ap (stands here.place) (sym same) ∙ is.stood refl in
    let by_kind : after_slot here.place here.kind old ≡ at_value (In here.place) old.content old.attribute =
    rw suited (past_in_place here.kind here.place (standing old) old suited stood) in
    let by_place : state_after_slot here.place old ≡ at_value (In here.place) old.content old.attribute = rw stood refl in
    placed_at s here.place old new (is.stood refl) after ∙ by_place ∙ sym by_kind

-- so the pieces behind it are told
pub taken_slot : (number : ℕ) (walk : Walk) (markup : List ℕ) (s : Standing) (slot : PlacedSlot) (new : Tokenizer) (next : List ℕ) (parts : List Given) →
    slot_at markup walk.url s ≡ Ok slot → markup ≡ walk.markup → s ≡ standing walk.tokenizer → AfterStanding s walk.tokenizer new → next_markup parts ≡ next →
    pieces_from number walk (GivenSlot ∷ parts)
    ≡ put_slot (before next slot) (pieces_from (number + 1) (record { tokenizer = new; markup = []; url = (before next slot).url }) parts)
taken_slot number walk markup s slot new next parts told same_markup same after follows = grind (arith, nat_tests, same_after_slot)
