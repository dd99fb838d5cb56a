-- The markup before the first slot, and the parts from that slot on, when the parts are split.
use Rattle.std.proofs.Common.{◌≡◌, ℕ, true, false, List, [], ◌∷◌, ◌++◌, is_some, sym, refl, ap, ◌∙◌, append_assoc, append-nil}
use Rattle.url.specs.Input.{split_once}
use Rattle.html_urls.specs.Shapes.{from_slot, front_of, split_parts}
use Rattle.html_urls.specs.Slots.{Given, Markup, Slot, url_of}
use Rattle.html_urls.proofs.Shapes.Fills.{clear, found, markup_split}

pub url_of_front : (parts : List Given) (texts : List (List ℕ)) → url_of parts texts ≡ front_of parts ++ url_of (from_slot parts) texts
url_of_front [] texts = refl
url_of_front (Markup bytes ∷ parts) texts = ap (λ l. bytes ++ l) (url_of_front parts texts) ∙ sym (append_assoc bytes (front_of parts) (url_of (from_slot parts) texts))
url_of_front (Slot at ∷ parts) texts = refl

pub front_of_split : (mark : ℕ) (parts : List Given) → front_of (split_parts mark parts).0 ≡ (split_once mark (front_of parts)).0
unfolding split_once
front_of_split mark [] = refl
front_of_split mark (Markup bytes ∷ parts) =
    elim (markup_split mark bytes parts) [
      | found before after is halves whole ↦ rw (halves, whole (front_of parts)) (append-nil before)
      | clear halves whole ↦ rw (halves, whole (front_of parts), front_of_split mark parts) refl
    ]
front_of_split mark (Slot at ∷ parts) = refl

-- no slot stands before a mark of the front
pub no_slot_before : (mark : ℕ) (parts : List Given) → is_some (split_once mark (front_of parts)).1 ≡ true → from_slot (split_parts mark parts).0 ≡ []
unfolding split_once
no_slot_before mark [] stands = refl
no_slot_before mark (Markup bytes ∷ parts) stands =
    elim (markup_split mark bytes parts) [ found before after is halves whole ↦ rw halves refl | clear halves whole ↦ rw halves (no_slot_before mark parts (rw (whole (front_of parts)) at stands)) ]
no_slot_before mark (Slot at ∷ parts) stands = cc

-- nor before a mark of parts without slots
pub no_slot_still : (mark : ℕ) (parts : List Given) → from_slot parts ≡ [] → from_slot (split_parts mark parts).0 ≡ []
no_slot_still mark [] none = refl
no_slot_still mark (Markup bytes ∷ parts) none = elim (markup_split mark bytes parts) [ found before after is halves whole ↦ rw halves refl | clear halves whole ↦ rw halves (no_slot_still mark parts none) ]
no_slot_still mark (Slot at ∷ parts) none = cc

-- a front without the mark is before it
pub from_slot_split : (mark : ℕ) (parts : List Given) → is_some (split_once mark (front_of parts)).1 ≡ false → from_slot (split_parts mark parts).0 ≡ (split_parts mark (from_slot parts)).0
from_slot_split mark [] none = refl
from_slot_split mark (Markup bytes ∷ parts) none =
    elim (markup_split mark bytes parts) [
      | found before after is halves whole ↦ let clash = rw (whole (front_of parts)) at none in cc
      | clear halves whole ↦ rw halves (from_slot_split mark parts (rw (whole (front_of parts)) at none))
    ]
from_slot_split mark (Slot at ∷ parts) none = refl
