-- Markup behind a slot of a URL: what it adds to the URL, and what is open behind it.
use Rattle.std.proofs.Common.{ℕ, ◌≡◌, ◌≢◌, ◌⊎◌, ◌&&◌, if◌then◌else◌, not, Bool, true, false, List, [], ◌∷◌, Option, Some, None, Ok, Err, Result, inl, inr, refl, ap, ◌∙◌, arith}
use Rattle.std.proofs.lemmas.Bool.Decides.{nat_tests}
use Rattle.std.proofs.lemmas.Bool.{cases_Bool}
use Rattle.std.proofs.lemmas.Slice.Eq.{bytes_eq-Decides}
use Rattle.std.specs.Option.{option_and_then}
use Rattle.html_template.specs.declared.faults.PartFault.{PartFault}
use Rattle.html_template.specs.declared.faults.PartFault.TheVariants.{AfterLink, NotFixed, NotPlain}
use Rattle.html_template.specs.declared.open_url.OpenUrl.{OpenUrl}
use Rattle.html_template.specs.declared.open_url.OpenUrl.TheVariants.{Outside, Front}
use Rattle.html_template.specs.OpenUrls.{after_base, behind_base_text, behind_part, behind_slot, if_plain, is_slash, part_markup, plain_text, url_end, within}
use Rattle.html_tokenizer.specs.declared.slot_place.SlotPlace.{SlotPlace}
use Rattle.html_tokenizer.specs.UrlValues.{url_text}
use Rattle.html_urls.specs.Bases.{goes_as, open_behind}
use Rattle.html_urls.specs.OpenParts.{after_markup, is_unfixed, may_be_dots}
use Rattle.html_urls.specs.Slots.{is_plain}
use Rattle.html_urls.specs.declared.base.BehindBase.{BehindBase}
use Rattle.html_urls.specs.declared.base.BehindBase.TheVariants.{Segment}
use Rattle.html_urls.specs.declared.open_part.OpenPart.{OpenPart}

-- the markup adds this text to the URL
pub record AddsText (is_ended : Bool) (markup text : List ℕ) : Type 0 where
  pub read : url_text is_ended markup ≡ Some text
  pub plain : is_plain text is_ended ≡ true

some_text : {first second : List ℕ} → Some first ≡ Some second → first ≡ second
some_text same = cc

plain_adds : (is_ended : Bool) (markup text : List ℕ) (read : Option (List ℕ)) → url_text is_ended markup ≡ read → option_and_then (if_plain is_ended) read ≡ Some text →
    AddsText is_ended markup text
plain_adds is_ended markup text None is told = absurd (cc)
plain_adds is_ended markup text (Some found) is told =
    elim (cases_Bool (is_plain found is_ended)) [
      | inl plain ↦ let same : found ≡ text = some_text (rw plain at told) in
          record { read = is ∙ ap Some same; plain = rw (← same) plain }
      | inr not ↦ let clash : None ≡ Some text = rw not at told in
          absurd (cc)
    ]

pub adds_text : (is_ended : Bool) (markup text : List ℕ) → plain_text is_ended markup ≡ Some text → AddsText is_ended markup text
adds_text is_ended markup text told = plain_adds is_ended markup text (url_text is_ended markup) refl told

abbrev pub as_told : OpenUrl → Result OpenUrl PartFault
as_told url = Ok url

-- the value goes on behind the markup, or ends in it
pub record BehindSlot (listed : Bool) (p : SlotPlace) (part : OpenPart) (ended : Bool) (markup : List ℕ) (url : OpenUrl) : Type 0 where
  pub text : List ℕ
  pub adds : AddsText ended markup text
  pub after : OpenPart
  pub scheme : is_unfixed part text ≡ false
  pub opened : after_markup part text ≡ Some after
  pub told : url_end listed p ended after ≡ Ok url

behind_after : (listed : Bool) (p : SlotPlace) (part : OpenPart) (ended : Bool) (markup text : List ℕ) (url : OpenUrl) (after : Option OpenPart) →
    AddsText ended markup text → is_unfixed part text ≡ false → after_markup part text ≡ after → behind_part listed p ended after ≡ Ok url → BehindSlot listed p part ended markup url
behind_after listed p part ended markup text url None adds scheme opened told = absurd (cc)
behind_after listed p part ended markup text url (Some after) adds scheme opened told =
    record { text = text; adds = adds; after = after; scheme = scheme; opened = opened; told = told }

behind_read : (listed : Bool) (p : SlotPlace) (part : OpenPart) (ended : Bool) (markup : List ℕ) (url : OpenUrl) (read : Option (List ℕ)) →
    plain_text ended markup ≡ read → behind_slot listed p part ended read ≡ Ok url → BehindSlot listed p part ended markup url
behind_read listed p part ended markup url None is told = absurd (cc)
behind_read listed p part ended markup url (Some text) is told =
    elim (cases_Bool (is_unfixed part text)) [
      | inl ends ↦ let clash : Err NotFixed ≡ as_told url = rw ends at told in
          absurd (cc)
      | inr other ↦ behind_after listed p part ended markup text url (after_markup part text) (adds_text ended markup text is) other refl (rw other at told)
    ]

pub behind_told : (listed : Bool) (p : SlotPlace) (part : OpenPart) (ended : Bool) (markup : List ℕ) (url : OpenUrl) →
    behind_slot listed p part ended (plain_text ended markup) ≡ Ok url → BehindSlot listed p part ended markup url
behind_told listed p part ended markup url told = behind_read listed p part ended markup url (plain_text ended markup) refl told

-- of a list, where no comma ends the URL that may be one of it
pub uncut_told : (p : SlotPlace) (part : OpenPart) (markup : List ℕ) (url : OpenUrl) (ends : Bool) →
    (if ends then part_markup true p part markup else Err NotPlain) ≡ Ok url → part_markup true p part markup ≡ Ok url
uncut_told p part markup url true told = told
uncut_told p part markup url false told = absurd (cc)

-- ---- at the end of the markup, or of the URL

pub ok_url : {first second : OpenUrl} → as_told first ≡ as_told second → first ≡ second
ok_url same = cc

pub goes_on : (listed : Bool) (p : SlotPlace) (part : OpenPart) (url : OpenUrl) → url_end listed p false part ≡ Ok url → within listed p part ≡ url
goes_on listed p part url told = ok_url told

-- the URL is whole
pub record IsEnded (part : OpenPart) (url : OpenUrl) : Type 0 where
  pub no_dots : may_be_dots part ≡ false
  pub outside : Outside ≡ url

pub is_ended : (listed : Bool) (p : SlotPlace) (part : OpenPart) (url : OpenUrl) → url_end listed p true part ≡ Ok url → IsEnded part url
is_ended listed p part url told = grind (arith, nat_tests)

-- ---- behind a base

-- the `/` stands alone, and the base is one that ends in `/`
pub record SlashAlone (p : SlotPlace) (ended : Bool) (text : List ℕ) (url : OpenUrl) : Type 0 where
  pub open_still : ended ≡ false
  pub text_is : text ≡ 47 ∷ []
  pub told : Front p Segment ≡ url

-- or the URL goes on in a part that is open, or ends in it
pub record InPartOf (p : SlotPlace) (behind : BehindBase) (ended : Bool) (text : List ℕ) (url : OpenUrl) : Type 0 where
  pub long : ended ≡ false → text ≢ 47 ∷ []
  pub after : OpenPart
  pub opened : after_markup (open_behind behind) text ≡ Some after
  pub told : url_end false p ended after ≡ Ok url

pub record BehindFront (p : SlotPlace) (behind : BehindBase) (ended : Bool) (markup : List ℕ) (url : OpenUrl) : Type 0 where
  pub text : List ℕ
  pub adds : AddsText ended markup text
  pub goes : goes_as behind text ≡ true
  pub how : SlashAlone p ended text url ⊎ InPartOf p behind ended text url

is_open : (ended slash : Bool) → (not ended && slash) ≡ true → (ended ≡ false) × (slash ≡ true)
is_open ended slash is = grind (arith, nat_tests)

not_alone : (ended : Bool) (text : List ℕ) → (not ended && is_slash text) ≡ false → ended ≡ false → text ≢ 47 ∷ []
not_alone ended text none open_still same = grind (arith, nat_tests)

part_after : (p : SlotPlace) (behind : BehindBase) (ended : Bool) (text : List ℕ) (url : OpenUrl) (after : Option OpenPart) →
    after_markup (open_behind behind) text ≡ after → (ended ≡ false → text ≢ 47 ∷ []) → behind_part false p ended after ≡ Ok url → InPartOf p behind ended text url
part_after p behind ended text url after opened long told = grind (arith, nat_tests)

base_text_told : (p : SlotPlace) (behind : BehindBase) (ended : Bool) (text : List ℕ) (url : OpenUrl) → behind_base_text p behind ended text ≡ Ok url →
    SlashAlone p ended text url ⊎ InPartOf p behind ended text url
base_text_told p behind ended text url told = grind (arith, nat_tests, not, is_open, bytes_eq-Decides, ok_url, part_after, not_alone)

base_read : (p : SlotPlace) (behind : BehindBase) (ended : Bool) (markup : List ℕ) (url : OpenUrl) (read : Option (List ℕ)) →
    plain_text ended markup ≡ read → after_base p behind ended read ≡ Ok url → BehindFront p behind ended markup url
base_read p behind ended markup url None is told = absurd (cc)
base_read p behind ended markup url (Some text) is told =
    elim (cases_Bool (goes_as behind text)) [
      | inl goes ↦ record { text = text; adds = adds_text ended markup text is; goes = goes; how = base_text_told p behind ended text url (rw goes at told) }
      | inr stops ↦ let clash : Err AfterLink ≡ as_told url = rw stops at told in
          absurd (cc)
    ]

pub base_told : (p : SlotPlace) (behind : BehindBase) (ended : Bool) (markup : List ℕ) (url : OpenUrl) →
    after_base p behind ended (plain_text ended markup) ≡ Ok url → BehindFront p behind ended markup url
base_told p behind ended markup url told = base_read p behind ended markup url (plain_text ended markup) refl told
