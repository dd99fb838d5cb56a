-- The pieces of a template's parts, and what keeps parts from being a template.
use Rattle.std.specs.Prelude.{◌≡◌, ⊤, ℕ, ◌+◌, ◌-◌, Bool, if◌then◌else◌, List, [], ◌∷◌, Result, Ok, Err, true, false}
use Rattle.html_template.specs.declared.faults.TemplateFault.{TemplateFault}
use Rattle.html_template.specs.declared.faults.TemplateFault.TheVariants.{Part, Unfinished, Memory}
use Rattle.html_template.specs.declared.faults.PartFault.{PartFault}
use Rattle.html_template.specs.declared.faults.PartFault.TheVariants.{Malformed, NoPlace, Forbidden, NotPlain}
use Rattle.html_template.specs.declared.open_url.OpenUrl.{OpenUrl}
use Rattle.html_template.specs.declared.walk.Walk.{Walk as Running}
use Rattle.html_tokenizer.specs.Tokenizer.Phases.{tokenizer_of}
use Rattle.html_template.specs.declared.open_url.OpenUrl.TheVariants.{Outside, Declaration}
use Rattle.html_template.specs.declared.parts.SlotKind.TheVariants as kind
use Rattle.html_template.specs.declared.open_url.PlacedSlot.{PlacedSlot}
use Rattle.html_template.specs.OpenUrls.{before, url_markup, url_slot}
use Rattle.html_template.specs.Templates.{Chunk, Markup, Slot, Given, GivenMarkup, GivenSlot, after_slot}
use Rattle.html_tokenizer.specs.declared.reader.Standing.{Standing}
use Rattle.html_tokenizer.specs.declared.reader.Standing.TheVariants.{Stands, InUrl, InLink, InListedUrl, InDeclaration, InScript, InJson, Nowhere, Barred}
use Rattle.html_tokenizer.specs.declared.slot_place.SlotPlace.TheVariants.{ScriptDouble, Text}
use Rattle.html_tokenizer.specs.Standing.{is_refused, may_end, standing}
use Rattle.html_tokenizer.specs.Tokenizer.States.{Tokenizer, data_state}
use Rattle.html_tokenizer.specs.Tokenizer.Tokenization.{state_after}

-- what was read of the parts: where the tokenizer is, the last part, if it is markup, and what is open of a URL or a declaration with slots
pub record Walk : Type 0 where
  pub tokenizer : Tokenizer
  pub markup : List ℕ
  pub url : OpenUrl

abbrev pub at_beginning : Walk
at_beginning = record { tokenizer = data_state; markup = []; url = Outside }

-- a slot behind this markup, by where it stands
abbrev pub slot_at : List ℕ → OpenUrl → Standing → Result PlacedSlot PartFault
slot_at markup url (Stands p) = Ok (record { place = p; kind = kind.Text; url = Outside })
slot_at markup url (InUrl p) = url_slot false p false markup url
slot_at markup url (InLink p) = url_slot false p true markup url
slot_at markup url (InListedUrl p) = url_slot true p false markup url
slot_at markup url (InDeclaration p) = Ok (record { place = p; kind = kind.StyleValue; url = Declaration p })
slot_at markup url InScript = Ok (record { place = ScriptDouble; kind = kind.Literal; url = Outside })
slot_at markup url InJson = Ok (record { place = Text; kind = kind.Json; url = Outside })
slot_at markup url Barred = Err Forbidden
slot_at markup url Nowhere = Err NoPlace

-- the part that the fault of a slot is of: markup that is not plain is that before the slot
abbrev pub faulty_part : ℕ → PartFault → ℕ
faulty_part slot NotPlain = slot - 1
faulty_part slot why = slot

-- the pieces of a template, or the first fault
abbrev pub Told : Type 0
Told = Result (List Chunk) TemplateFault

-- a piece before others
abbrev pub put : Chunk → Told → Told
put chunk (Ok chunks) = Ok (chunk ∷ chunks)
put chunk (Err fault) = Err fault

-- goes on, unless there is a fault, which is of this part
abbrev pub told_of : {T : Type 0} → (PartFault → ℕ) → Result T PartFault → (T → Told) → Told
told_of part (Ok found) go_on = go_on found
told_of part (Err why) go_on = Err (Part (part why) why)

abbrev pub behind_markup : Walk → List ℕ → OpenUrl → Walk
behind_markup walk bytes url = record { tokenizer = state_after walk.tokenizer bytes; markup = bytes; url = url }

abbrev pub behind_slot : Walk → PlacedSlot → Walk
behind_slot walk slot = record { tokenizer = after_slot slot.place slot.kind walk.tokenizer; markup = []; url = slot.url }

-- the markup that follows directly, and nothing where a slot follows, or no part
abbrev pub next_markup : List Given → List ℕ
next_markup (GivenMarkup bytes ∷ parts) = bytes
next_markup other = []

abbrev pub put_slot : PlacedSlot → Told → Told
put_slot slot told = put (Slot slot.place slot.kind) told

-- the pieces of the parts from this number on
abbrev pub pieces_from : ℕ → Walk → List Given → Told
pieces_from number walk [] = if may_end walk.tokenizer then Ok [] else Err Unfinished
pieces_from number walk (GivenMarkup bytes ∷ parts) =
    if is_refused (state_after walk.tokenizer bytes).state then Err (Part number Malformed)
    else told_of (λ why. number) (url_markup walk.url bytes) (λ url. put (Markup bytes) (pieces_from (number + 1) (behind_markup walk bytes url) parts))
pieces_from number walk (GivenSlot ∷ parts) =
    told_of (faulty_part number) (slot_at walk.markup walk.url (standing walk.tokenizer))
    (λ slot. put_slot (before (next_markup parts) slot) (pieces_from (number + 1) (behind_slot walk (before (next_markup parts) slot)) parts))

-- the pieces of the parts
abbrev pub template_of : List Given → Told
template_of parts = pieces_from 0 at_beginning parts

-- the same, where the parts have no fault
abbrev pub told_chunks : Told → List Chunk
told_chunks (Ok chunks) = chunks
told_chunks (Err fault) = []

abbrev pub placed : List Given → List Chunk
placed parts = told_chunks (template_of parts)

-- the parts have none: they are a template
abbrev pub is_told : Told → Bool
is_told (Ok chunks) = true
is_told (Err fault) = false

abbrev pub is_template : List Given → Bool
is_template parts = is_told (template_of parts)

-- after one part more, behind which these follow, the pieces are this one and those of the others, or its fault is the first
abbrev pub TakesPart : {T : Type 0} → (T → Chunk) → ℕ → Walk → Given → List Given → Walk → Result T TemplateFault → Type 0
TakesPart chunk number old part parts new (Ok taken) =
    pieces_from number old (part ∷ parts) ≡ put (chunk taken) (pieces_from (number + 1) new parts)
TakesPart chunk number old part parts new (Err Memory) = ⊤
TakesPart chunk number old part parts new (Err other) = pieces_from number old (part ∷ parts) ≡ Err other

-- pieces before those that are told
abbrev pub put_all : List Chunk → Told → Told
put_all [] told = told
put_all (chunk ∷ chunks) told = put chunk (put_all chunks told)

abbrev pub told_behind : List Chunk → ℕ → Walk → List Given → Told
told_behind chunks number walk parts = put_all chunks (pieces_from number walk parts)

-- after one part more the same is told, or its fault is
abbrev pub TakesMore : {T : Type 0} → ℕ → List Chunk → Walk → Given → List Given → List Chunk → Walk → Result T TemplateFault → Type 0
TakesMore number chunks walk part parts new_chunks new_walk (Ok done) =
    told_behind chunks number walk (part ∷ parts) ≡ told_behind new_chunks (number + 1) new_walk parts
TakesMore number chunks walk part parts new_chunks new_walk (Err Memory) = ⊤
TakesMore number chunks walk part parts new_chunks new_walk (Err other) =
    told_behind chunks number walk (part ∷ parts) ≡ Err other

-- ---- the answer

-- what is told is answered; memory may run out before
abbrev pub Answers : {T U : Type 0} → (T → U) → Result U TemplateFault → Result T TemplateFault → Type 0
Answers meaning told (Ok found) = told ≡ Ok (meaning found)
Answers meaning told (Err Memory) = ⊤
Answers meaning told (Err other) = told ≡ Err other

-- ---- what the running walk read

abbrev pub walk_of : {A : Type 0} → Running A → Walk
walk_of walk = record { tokenizer = tokenizer_of walk.reader; markup = walk.markup.now; url = walk.url }
