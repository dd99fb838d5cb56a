-- The slots of a URL's parts, the texts that fill them, and the URL of the texts.
use Rattle.std.specs.Prelude.{◌≡◌, ⊤, ℕ, suc, ◌+◌, ◌-◌, Bool, true, false, not, ◌&&◌, ◌||◌, ◌==◌, nat_lt, List, [], ◌∷◌, ◌++◌, length, map, Option, Some, None, Result, Ok, Err, IsOkAnd, if◌then◌else◌}
use Rattle.std.specs.Borrow.{Bor}
use Rattle.std.specs.Char.{is_digit}
use Rattle.std.specs.List.{list_all}
use Rattle.url.specs.Ascii.{backslash, percent_sign, space}
use Rattle.url.specs.Path.{dot_count}
use Rattle.html_urls.specs.declared.open_part.OpenPart.{OpenPart}
use Rattle.html_urls.specs.declared.parts.UrlFault.{UrlFault}
use Rattle.html_urls.specs.declared.parts.UrlFault.TheVariants.{NotPlain, NotFixed, DotSegment}
use Rattle.html_urls.specs.declared.parts.UrlPart.{UrlPart}
use Rattle.html_urls.specs.declared.parts.UrlPart.TheVariants as part
use Rattle.html_urls.specs.declared.parts.UrlSlot.{UrlSlot}
use Rattle.html_urls.specs.declared.place.UrlPlace.{UrlPlace}
use Rattle.html_urls.specs.declared.place.UrlPlace.TheVariants.{Path, OpaquePath, Query, Fragment}
use Rattle.html_urls.specs.Components.{component, component_at}
use Rattle.html_urls.specs.OpenParts.{after_markup, after_text, is_unfixed, may_be_dots, open_of, slot_at}

-- a part as the definitions take it: a slot with the place that it stands in
pub data Given : Type 0 where
  Markup : List ℕ → Given
  Slot : UrlPlace → Given

abbrev pub bare : UrlPart → Given
bare (part.Markup text) = Markup text.now
bare part.Slot = Slot Path

-- the texts as they are handed in
abbrev pub texts_of : List (Bor (List ℕ)) → List (List ℕ)
texts_of texts = map (λ text. text.now) texts

-- the URL of the texts: each in its slot, as it is written there
abbrev pub url_of : List Given → List (List ℕ) → List ℕ
url_of [] texts = []
url_of (Markup bytes ∷ parts) texts = bytes ++ url_of parts texts
url_of (Slot at ∷ parts) [] = url_of parts []
url_of (Slot at ∷ parts) (text ∷ texts) = component_at at text ++ url_of parts texts

-- ---- which texts fill the slots

-- where a segment begins with the slot, a text that is not empty, and whose component reads as neither `.` nor `..`
abbrev pub may_fill : UrlSlot → List ℕ → Bool
may_fill slot text = not slot.begins_segment || (nat_lt 0 (length text) && dot_count (component text) == 0)

-- a text for each slot and no more, each of which may fill it
abbrev pub FillSlots : List UrlSlot → List (List ℕ) → Type 0
FillSlots [] [] = ⊤
FillSlots [] (text ∷ texts) = ⊥
FillSlots (slot ∷ slots) [] = ⊥
FillSlots (slot ∷ slots) (text ∷ texts) = (may_fill slot text ≡ true) × FillSlots slots texts

-- ---- the slots of the parts

-- a byte that is no white space, no control and no `\`
abbrev pub is_plain_byte : ℕ → Bool
is_plain_byte b = nat_lt space b && nat_lt b 256 && not (b == 127 || b == backslash)

abbrev pub are_plain : List ℕ → Bool
are_plain bytes = list_all is_plain_byte bytes

-- the bytes end in `%`, or in `%` and one hexadecimal digit, which with what follows may be an escape
abbrev pub ends_in_escape : List ℕ → Bool
ends_in_escape [] = false
ends_in_escape (b ∷ []) = b == percent_sign
ends_in_escape (b ∷ c ∷ []) = c == percent_sign || (b == percent_sign && is_digit c 16)
ends_in_escape (b ∷ c ∷ d ∷ bytes) = ends_in_escape (c ∷ d ∷ bytes)

-- such bytes alone, and no escape is open at the end, unless the URL ends there
abbrev pub is_plain : List ℕ → Bool → Bool
is_plain markup is_last = are_plain markup && (is_last || not (ends_in_escape markup))

-- no part follows
abbrev pub no_parts : List Given → Bool
no_parts [] = true
no_parts (part ∷ parts) = false

abbrev pub Told : Type 0
Told = Result (List UrlSlot) UrlFault

-- these slots, and then those that are told
abbrev pub after_slots : List UrlSlot → Told → Told
after_slots slots (Ok more) = Ok (slots ++ more)
after_slots slots (Err fault) = Err fault

-- goes on where there is something, and else the fault is told
abbrev pub told_of : {T : Type 0} → Option T → UrlFault → (T → Told) → Told
told_of (Some found) fault go_on = go_on found
told_of None fault go_on = Err fault

-- behind the first slot, from the part of this number on
abbrev pub later_slots : ℕ → OpenPart → List Given → Told
later_slots number open_part [] = if may_be_dots open_part then Err (DotSegment (number - 1)) else Ok []
later_slots number open_part (Markup bytes ∷ parts) =
    if is_plain bytes (no_parts parts)
    then (if is_unfixed open_part bytes then Err (NotFixed number) else told_of (after_markup open_part bytes) (DotSegment number) (λ after. later_slots (number + 1) after parts))
    else Err (NotPlain number)
later_slots number open_part (Slot at ∷ parts) =
    told_of (slot_at open_part) (DotSegment number) (λ slot. after_slots (slot ∷ []) (later_slots (number + 1) (after_text open_part) parts))

-- before it, where this is the markup so far
abbrev pub first_slots : ℕ → List ℕ → List Given → Told
first_slots number front [] = Ok []
first_slots number front (Markup bytes ∷ parts) =
    if is_plain bytes (no_parts parts) then first_slots (number + 1) (front ++ bytes) parts else Err (NotPlain number)
first_slots number front (Slot at ∷ parts) =
    told_of (open_of front) (NotFixed number) (λ open_part. later_slots number open_part (Slot at ∷ parts))

-- in the one case or the other
abbrev pub slots_from : ℕ → List ℕ → Option OpenPart → List Given → Told
slots_from number front None parts = first_slots number front parts
slots_from number front (Some open_part) parts = later_slots number open_part parts

-- the slots of the parts, or the first fault
abbrev pub slots_of : List Given → Told
slots_of parts = first_slots 0 [] parts

-- the first slot stands in the path
abbrev pub is_path : UrlPlace → Bool
is_path Path = true
is_path OpaquePath = false
is_path Query = false
is_path Fragment = false

abbrev pub begins_in_path : Told → Bool
begins_in_path (Ok (slot ∷ slots)) = is_path slot.place
begins_in_path (Ok []) = false
begins_in_path (Err fault) = false

-- the parts, where these are their slots: each stands in its place
abbrev pub placed : List UrlSlot → List Given → List Given
placed [] parts = parts
placed (slot ∷ slots) [] = []
placed (slot ∷ slots) (Markup bytes ∷ parts) = Markup bytes ∷ placed (slot ∷ slots) parts
placed (slot ∷ slots) (Slot at ∷ parts) = Slot slot.place ∷ placed slots parts

-- the first slots, so many, stand in an opaque path
abbrev pub in_opaque : ℕ → List Given → List Given
in_opaque n [] = []
in_opaque n (Markup bytes ∷ parts) = Markup bytes ∷ in_opaque n parts
in_opaque n (Slot at ∷ parts) = Slot (if n == 0 then at else OpaquePath) ∷ in_opaque (n - 1) parts

-- the slots that are told
abbrev pub told_slots : Told → List UrlSlot
told_slots (Ok slots) = slots
told_slots (Err fault) = []

-- parts as they are given, of which the slots stand in the places that are told of them
abbrev pub given : List UrlPart → List Given
given parts = placed (told_slots (slots_of (map bare parts))) (map bare parts)

abbrev pub is_opaque_path : UrlPlace → Bool
is_opaque_path Path = false
is_opaque_path OpaquePath = true
is_opaque_path Query = false
is_opaque_path Fragment = false

-- how many of the first slots stand in an opaque path
abbrev pub opaque_count : List UrlSlot → ℕ
opaque_count [] = 0
opaque_count (slot ∷ slots) = if is_opaque_path slot.place then suc (opaque_count slots) else 0

-- the texts fill these slots, which are those of the parts
abbrev pub FillParts : List Given → List (List ℕ) → List UrlSlot → Type 0
FillParts parts texts slots = FillSlots slots texts × (placed slots parts ≡ parts)

-- the texts fill the slots of the parts, which have no fault
abbrev pub FillUrl : List Given → List (List ℕ) → Type 0
FillUrl parts texts = IsOkAnd (slots_of parts) (FillParts parts texts)
