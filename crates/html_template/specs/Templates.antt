-- Templates: where their slots stand, and their pages.
use Rattle.std.specs.Prelude.{⊤, ℕ, List, [], ◌∷◌, ◌++◌, map}
use Rattle.std.specs.Borrow.{Bor}
pub use Rattle.html_template.specs.Encoders.{encoder_for}
pub use Rattle.html_template.specs.Slots.{MayFill, after_slot, handed, slot_actions, written}
use Rattle.html_template.specs.declared.stored.Stored.{Stored}
use Rattle.html_template.specs.declared.stored.Stored.TheVariants as stored
use Rattle.html_template.specs.declared.parts.Part.{Part}
use Rattle.html_template.specs.declared.parts.Part.TheVariants as part
use Rattle.html_template.specs.declared.parts.SlotKind.{SlotKind}
use Rattle.html_tokenizer.specs.declared.slot_place.SlotPlace.{SlotPlace}
use Rattle.html_tokenizer.specs.Tokenizer.Actions.{Action, read_byte}
use Rattle.html_tokenizer.specs.Tokenizer.States.{Tokenizer}
use Rattle.html_tokenizer.specs.Tokenizer.Tokenization.{state_after, actions_of}

-- a piece of a template
pub data Chunk : Type 0 where
  Markup : List ℕ → Chunk
  Slot : SlotPlace → SlotKind → Chunk

-- the tokenizer after the pieces
abbrev pub state_after_all : Tokenizer → List Chunk → Tokenizer
state_after_all t [] = t
state_after_all t (Markup bytes ∷ chunks) = state_after_all (state_after t bytes) chunks
state_after_all t (Slot p kind ∷ chunks) = state_after_all (after_slot p kind t) chunks

-- the page of these texts
abbrev pub page : List Chunk → List (List ℕ) → List ℕ
page [] texts = []
page (Markup bytes ∷ chunks) texts = bytes ++ page chunks texts
page (Slot p kind ∷ chunks) [] = page chunks []
page (Slot p kind ∷ chunks) (text ∷ texts) = written p kind text ++ page chunks texts

-- the actions at a template, where each text is handed to its slot whole: the tokenizer does not look at it
abbrev pub actions_all : Tokenizer → List Chunk → List (List ℕ) → List Action
actions_all t [] texts = []
actions_all t (Markup bytes ∷ chunks) texts = actions_of t bytes ++ actions_all (state_after t bytes) chunks texts
actions_all t (Slot p kind ∷ chunks) [] = slot_actions kind [] ++ actions_all (after_slot p kind t) chunks []
actions_all t (Slot p kind ∷ chunks) (text ∷ texts) =
    slot_actions kind (map (read_byte p) (handed p kind text)) ++ actions_all (after_slot p kind t) chunks texts

-- there is a text for each slot and no more, and each may fill it
abbrev pub Fill : List Chunk → List (List ℕ) → Type 0
Fill [] [] = ⊤
Fill [] (text ∷ texts) = ⊥
Fill (Markup bytes ∷ chunks) texts = Fill chunks texts
Fill (Slot p kind ∷ chunks) [] = ⊥
Fill (Slot p kind ∷ chunks) (text ∷ texts) = MayFill p kind text × Fill chunks texts

-- a piece, as a template stores it
abbrev pub chunk_of : Stored → Chunk
chunk_of (stored.Markup markup) = Markup markup.text.now
chunk_of (stored.Slot slot) = Slot slot.place slot.kind

-- the texts as they are handed in
abbrev pub texts_of : List (Bor (List ℕ)) → List (List ℕ)
texts_of texts = map (λ text. text.now) texts

-- a part as it is given, and that of a piece
pub data Given : Type 0 where
  GivenMarkup : List ℕ → Given
  GivenSlot : Given

abbrev pub given : Part → Given
given (part.Markup text) = GivenMarkup text.now
given part.Slot = GivenSlot

abbrev pub part_of : Chunk → Given
part_of (Markup bytes) = GivenMarkup bytes
part_of (Slot p kind) = GivenSlot
