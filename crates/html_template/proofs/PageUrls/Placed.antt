-- What a slot in a URL was told to be.
use Rattle.std.proofs.Common.{ℕ, ◌≡◌, Bool, true, false, not, ◌||◌, if◌then◌else◌, List, [], ◌∷◌, Option, Some, None, Ok, refl, arith}
use Rattle.std.proofs.lemmas.Bool.Decides.{nat_tests}
use Rattle.html_template.specs.declared.open_url.OpenUrl.TheVariants.{Whole}
use Rattle.html_template.specs.declared.open_url.PlacedSlot.{PlacedSlot}
use Rattle.html_template.specs.declared.parts.SlotKind.TheVariants as kind
use Rattle.html_template.specs.OpenUrls.{at_open, behind_text, first_slot, in_part, plain_text, whole_slot, within}
use Rattle.html_template.specs.Slots.{whole_kind}
use Rattle.html_tokenizer.specs.declared.slot_place.SlotPlace.{SlotPlace}
use Rattle.html_tokenizer.specs.UrlValues.{after_last, begins_url, begins_value}
use Rattle.html_urls.specs.Images.{is_image_front}
use Rattle.html_urls.specs.OpenParts.{after_text, open_of, slot_at}
use Rattle.html_urls.specs.declared.open_part.OpenPart.{OpenPart}
use Rattle.html_urls.specs.declared.parts.UrlSlot.{UrlSlot}
use Rattle.html_template.proofs.PageUrls.LaterMarkup.{AddsText, adds_text}

abbrev pub part_slot : Bool → SlotPlace → OpenPart → UrlSlot → PlacedSlot
part_slot listed p part slot = record { place = p; kind = kind.UrlPart slot; url = within listed p (after_text part) }

abbrev pub quoted_slot : SlotPlace → Bool → PlacedSlot
quoted_slot p is_followed = record { place = p; kind = whole_kind is_followed; url = Whole p }

-- a slot where this part of a URL is open
pub record InPart (listed : Bool) (p : SlotPlace) (part : OpenPart) (slot : PlacedSlot) : Type 0 where
  pub found : UrlSlot
  pub at : slot_at part ≡ Some found
  pub is : part_slot listed p part found ≡ slot

found_told : (listed : Bool) (p : SlotPlace) (part : OpenPart) (found : Option UrlSlot) (slot : PlacedSlot) → slot_at part ≡ found →
    at_open listed p part found ≡ Ok slot → InPart listed p part slot
found_told listed p part found slot at told = grind (arith, nat_tests)

pub part_told : (listed : Bool) (p : SlotPlace) (part : OpenPart) (slot : PlacedSlot) → in_part listed p (Some part) ≡ Ok slot → InPart listed p part slot
part_told listed p part slot told = found_told listed p part (slot_at part) slot refl told

-- the first slot of a URL, behind its markup
pub record BehindFront (listed : Bool) (p : SlotPlace) (raw : List ℕ) (slot : PlacedSlot) : Type 0 where
  pub text : List ℕ
  pub adds : AddsText false raw text
  pub part : OpenPart
  pub opened : open_of text ≡ Some part
  pub placed : InPart listed p part slot

opened_told : (listed : Bool) (p : SlotPlace) (raw text : List ℕ) (slot : PlacedSlot) (opened : Option OpenPart) → AddsText false raw text → open_of text ≡ opened →
    in_part listed p opened ≡ Ok slot → BehindFront listed p raw slot
opened_told listed p raw text slot None adds is told = absurd (cc)
opened_told listed p raw text slot (Some part) adds is told =
    record { text = text; adds = adds; part = part; opened = is; placed = part_told listed p part slot told }

text_told : (listed taken : Bool) (p : SlotPlace) (text : List ℕ) (slot : PlacedSlot) → in_part listed p (if taken then open_of text else None) ≡ Ok slot → in_part listed p (open_of text) ≡ Ok slot
text_told listed true p text slot told = told
text_told listed false p text slot told = absurd (cc)

front_told : (listed is_followed : Bool) (p : SlotPlace) (raw : List ℕ) (slot : PlacedSlot) (read : Option (List ℕ)) → plain_text false raw ≡ read →
    behind_text listed p is_followed read ≡ Ok slot → BehindFront listed p raw slot
front_told listed is_followed p raw slot None is told = absurd (cc)
front_told listed is_followed p raw slot (Some text) is told =
    opened_told listed p raw text slot (open_of text) (adds_text false raw text is) refl (text_told listed (is_followed || not (is_image_front text)) p text slot told)

whole_told : (is_followed : Bool) (p : SlotPlace) (slot : PlacedSlot) → whole_slot false p is_followed ≡ Ok slot → quoted_slot p is_followed ≡ slot
whole_told is_followed p slot told = grind (arith, nat_tests)

-- it is a whole URL, or stands behind markup
pub data IsFirst (listed : Bool) (p : SlotPlace) (markup : List ℕ) (slot : PlacedSlot) : Type 0 where
  whole : (is_followed : Bool) → listed ≡ false → after_last (begins_value p) markup ≡ Some [] → quoted_slot p is_followed ≡ slot → IsFirst listed p markup slot
  past_markup : (raw : List ℕ) → after_last (begins_url listed p) markup ≡ Some raw → BehindFront listed p raw slot → IsFirst listed p markup slot

last_told : (listed : Bool) (p : SlotPlace) (is_followed : Bool) (markup : List ℕ) (slot : PlacedSlot) (last : Option (List ℕ)) →
    after_last (begins_url listed p) markup ≡ last → first_slot listed p is_followed last ≡ Ok slot → IsFirst listed p markup slot
last_told listed p is_followed markup slot None is told = absurd (cc)
last_told true p is_followed markup slot (Some []) is told = absurd (cc)
last_told false p is_followed markup slot (Some []) is told = whole is_followed refl is (whole_told is_followed p slot told)
last_told listed p is_followed markup slot (Some (b ∷ raw)) is told =
    past_markup (b ∷ raw) is (front_told listed is_followed p (b ∷ raw) slot (plain_text false (b ∷ raw)) refl told)

pub first_told : (listed : Bool) (p : SlotPlace) (is_followed : Bool) (markup : List ℕ) (slot : PlacedSlot) →
    first_slot listed p is_followed (after_last (begins_url listed p) markup) ≡ Ok slot → IsFirst listed p markup slot
first_told listed p is_followed markup slot told = last_told listed p is_followed markup slot (after_last (begins_url listed p) markup) refl told
