-- Parts whose slots are told have plain markup, which the parser keeps as it is, and leave no escape open.
use Rattle.std.proofs.Common.{◌≡◌, ℕ, ◌+◌, true, not, List, [], ◌∷◌, ◌++◌, Ok, All, refl}
use Rattle.std.specs.List.{list_all}
use Rattle.std.specs.Bool.{⊤}
use Rattle.std.proofs.lemmas.Bool.{and_parts}
use Rattle.std.proofs.lemmas.List.Elements.{All-nil, All-append}
use Rattle.html_urls.specs.declared.open_part.OpenPart.{OpenPart}
use Rattle.html_urls.specs.declared.parts.UrlSlot.{UrlSlot}
use Rattle.html_urls.specs.Components.{component_at}
use Rattle.html_urls.specs.Inputs.{IsVisible}
use Rattle.html_urls.specs.OpenParts.{after_text}
use Rattle.html_urls.specs.Shapes.{front_of}
use Rattle.html_urls.specs.Slots.{Given, Markup, Slot, ends_in_escape, first_slots, is_plain, is_plain_byte, later_slots, no_parts, url_of}
use Rattle.percent_encoding.proofs.PercentLemmas.{IsByte}
use Rattle.html_urls.proofs.Bytes.{IsOfBytes, plain_is_of_bytes}
use Rattle.html_urls.proofs.Components.{written_visible}
use Rattle.html_urls.proofs.Filled.FirstSlot.{plain_visible}
use Rattle.html_urls.proofs.Filled.Told.{first_markup, first_slot, later_markup, later_slot}
use Rattle.html_urls.proofs.OpenEscapes.{ClosesEscapes, closed_before, not_true, plain_bytes}

abbrev pub IsPlainMarkup : List ℕ → Type 0
IsPlainMarkup bytes = All (λ b. is_plain_byte b ≡ true) bytes

abbrev pub ArePlain : List Given → Type 0
ArePlain [] = ⊤
ArePlain (Markup bytes ∷ parts) = (is_plain bytes (no_parts parts) ≡ true) × ArePlain parts
ArePlain (Slot at ∷ parts) = ArePlain parts

-- their markup is of bytes
pub plain_bytes_only : (parts : List Given) → ArePlain parts → IsOfBytes parts
plain_bytes_only [] plain = All-nil IsByte
plain_bytes_only (Markup bytes ∷ parts) plain =
    All-append IsByte bytes (url_of parts []) (plain_is_of_bytes bytes (plain_bytes bytes (no_parts parts) plain.0)) (plain_bytes_only parts plain.1)
plain_bytes_only (Slot at ∷ parts) plain = plain_bytes_only parts plain

-- and they leave no escape open
pub plain_closes : (parts : List Given) → ArePlain parts → ClosesEscapes parts
plain_closes [] plain = refl
plain_closes (Markup bytes ∷ []) plain = refl
plain_closes (Markup bytes ∷ part ∷ parts) plain =
    closed_before bytes (part ∷ parts) (not_true (ends_in_escape bytes) (and_parts (list_all is_plain_byte bytes) (not (ends_in_escape bytes)) plain.0).1) (plain_closes (part ∷ parts) plain.1)
plain_closes (Slot at ∷ parts) plain = plain_closes parts plain

pub later_plain : (parts : List Given) (number : ℕ) (p : OpenPart) (slots : List UrlSlot) → later_slots number p parts ≡ Ok slots → ArePlain parts
later_plain [] number p slots told = tt
later_plain (Markup bytes ∷ parts) number p slots told = let (q, plain, here, rest) = later_markup number p bytes parts slots told in (plain, later_plain parts (number + 1) q slots rest)
later_plain (Slot at ∷ parts) number p slots told = let (slot, more, here, rest, are) = later_slot number p at parts slots told in later_plain parts (number + 1) (after_text p) more rest

pub first_plain : (parts : List Given) (number : ℕ) (front : List ℕ) (slots : List UrlSlot) → first_slots number front parts ≡ Ok slots → ArePlain parts
first_plain [] number front slots told = tt
first_plain (Markup bytes ∷ parts) number front slots told = let (plain, rest) = first_markup number front bytes parts slots told in (plain, first_plain parts (number + 1) (front ++ bytes) slots rest)
first_plain (Slot at ∷ parts) number front slots told = let (p, is, rest) = first_slot number front at parts slots told in later_plain (Slot at ∷ parts) number p slots rest

pub front_plain : (parts : List Given) → ArePlain parts → IsPlainMarkup (front_of parts)
front_plain [] plain = All-nil (λ b. is_plain_byte b ≡ true)
front_plain (Markup bytes ∷ parts) plain = All-append (λ b. is_plain_byte b ≡ true) bytes (front_of parts) (plain_bytes bytes (no_parts parts) plain.0) (front_plain parts plain.1)
front_plain (Slot at ∷ parts) plain = All-nil (λ b. is_plain_byte b ≡ true)

pub url_visible : (parts : List Given) (texts : List (List ℕ)) → ArePlain parts → All IsVisible (url_of parts texts)
url_visible [] texts plain = All-nil IsVisible
url_visible (Markup bytes ∷ parts) texts plain = All-append IsVisible bytes (url_of parts texts) (plain_visible bytes (plain_bytes bytes (no_parts parts) plain.0)) (url_visible parts texts plain.1)
url_visible (Slot at ∷ parts) [] plain = url_visible parts [] plain
url_visible (Slot at ∷ parts) (text ∷ texts) plain = All-append IsVisible (component_at at text) (url_of parts texts) (written_visible at text) (url_visible parts texts plain)
