-- What is answered of a URL's parts: their slots or the first fault, where memory does not run out before.
use Rattle.std.specs.Prelude.{◌≡◌, ⊤, ℕ, ◌+◌, List, ◌∷◌, Option, Result, Ok, Err}
use Rattle.html_urls.specs.declared.open_part.OpenPart.{OpenPart}
use Rattle.html_urls.specs.declared.parts.UrlFault.{UrlFault}
use Rattle.html_urls.specs.declared.parts.UrlFault.TheVariants.{NotPlain, NotFixed, DotSegment, Memory}
use Rattle.html_urls.specs.declared.parts.UrlSlot.{UrlSlot}
use Rattle.html_urls.specs.Slots.{Given, Told, after_slots, slots_from}

abbrev pub AnswersSlots : {T : Type 0} → (T → List UrlSlot) → Told → Result T UrlFault → Type 0
AnswersSlots items told (Ok slots) = told ≡ Ok (items slots)
AnswersSlots items told (Err Memory) = ⊤
AnswersSlots items told (Err (NotPlain number)) = told ≡ Err (NotPlain number)
AnswersSlots items told (Err (NotFixed number)) = told ≡ Err (NotFixed number)
AnswersSlots items told (Err (DotSegment number)) = told ≡ Err (DotSegment number)

-- with one part more the slots are those so far and those of the parts behind it, or its fault is the first
abbrev pub TakesPart : ℕ → List ℕ → Option OpenPart → List UrlSlot → Given → List Given → List ℕ → List UrlSlot → Result (Option OpenPart) UrlFault → Type 0
TakesPart number front open_part slots part parts new_front new_slots (Ok new_part) =
    after_slots slots (slots_from number front open_part (part ∷ parts)) ≡ after_slots new_slots (slots_from (number + 1) new_front new_part parts)
TakesPart number front open_part slots part parts new_front new_slots (Err Memory) = ⊤
TakesPart number front open_part slots part parts new_front new_slots (Err fault) = slots_from number front open_part (part ∷ parts) ≡ Err fault
