-- The part that a front ends in, by a test that computes.
use Rattle.std.proofs.Common.{◌≡◌, ℕ, true, List, Option, Some, None, if◌then◌else◌, refl, subst, sym, ◌∙◌, inl, inr}
use Rattle.std.specs.Option.{option_and_then, option_map}
use Rattle.std.proofs.lemmas.Bool.{cases_Bool}
use Rattle.url.proofs.InputLemmas.{All_from_list_all}
use Rattle.html_urls.specs.declared.open_part.OpenPart.{OpenPart}
use Rattle.html_urls.specs.declared.parts.UrlSlot.{UrlSlot}
use Rattle.html_urls.specs.declared.place.UrlPlace.{UrlPlace}
use Rattle.html_urls.specs.OpenParts.{open_of, slot_at}
use Rattle.html_urls.specs.Places.{EndsIn}
use Rattle.html_urls.specs.Slots.{are_plain, is_plain_byte}
use Rattle.html_urls.proofs.Filled.FirstSlot.{front_stands, slot_place}

-- that of a slot behind plain markup
abbrev pub place_of : List ℕ → Option UrlPlace
place_of front = if are_plain front then option_map (λ slot. slot.place) (option_and_then slot_at (open_of front)) else None

pub place_is : (place : UrlPlace) (front : List ℕ) → place_of front ≡ Some place → EndsIn place front
place_is place front is =
    elim (cases_Bool (are_plain front)) [ inl plain ↦ by_part plain (open_of front) refl (rw plain at is) | inr other ↦ let clash : None ≡ Some place = rw other at is in absurd (cc) ]
  where
    by_slot : are_plain front ≡ true → (p : OpenPart) → open_of front ≡ Some p → (o : Option UrlSlot) → slot_at p ≡ o → option_map (λ slot. slot.place) o ≡ Some place → EndsIn place front
    by_slot plain p opened (Some slot) here is =
        let same : slot.place ≡ place = cc in
        subst (λ at. EndsIn at front) (sym (slot_place p slot here) ∙ same) (front_stands front p slot (All_from_list_all is_plain_byte front plain) opened here).ends
    by_slot plain p opened None here is = cc

    by_part : are_plain front ≡ true → (o : Option OpenPart) → open_of front ≡ o → option_map (λ slot. slot.place) (option_and_then slot_at o) ≡ Some place → EndsIn place front
    by_part plain (Some p) opened is = by_slot plain p opened (slot_at p) refl is
    by_part plain None opened is = cc
