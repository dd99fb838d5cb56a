-- The nodes of a view: markup, slots and sections.
use Rattle.std.specs.Prelude.{ℕ, List}
use Rattle.html_template.specs.declared.parts.SlotKind.{SlotKind}
use Rattle.html_tokenizer.specs.declared.slot_place.SlotPlace.{SlotPlace}
use Rattle.html_view.specs.declared.faults.Position.{Position}
use Rattle.html_view.specs.declared.node.Times.{Times}
use Rattle.html_view.specs.declared.node.Times.TheVariants.{Each, Once}

-- the words of a name, and none for the value that is innermost
abbrev pub Words : Type 0
Words = List (List ℕ)

-- the tag that opens a section: its name, where it stands, and how often the body may stand
pub record Opening : Type 0 where
  pub name : Words
  pub position : Position
  pub times : Times

-- a slot as it is written: its name, and where its tag stands
pub record Asked : Type 0 where
  pub name : Words
  pub position : Position

-- nodes in order, where this is known of each slot
pub data Nodes (S : Type 0) : Type 0 where
  End : Nodes S
  Markup : List ℕ → Nodes S → Nodes S
  Slot : S → Nodes S → Nodes S
  -- a slot for a fragment
  Fragment : Asked → Nodes S → Nodes S
  -- a body, what stands where it does not, and what follows
  Section : Opening → Nodes S → Nodes S → Nodes S → Nodes S

-- where a slot stands in the page, and what its text is
pub record Placed : Type 0 where
  pub asked : Asked
  pub place : SlotPlace
  pub kind : SlotKind

-- a body that cannot be repeated is written as one that can
abbrev pub written_times : Times → Times
written_times Once = Each
written_times other = other

abbrev pub written_opening : Opening → Opening
written_opening opening = record { name = opening.name; position = opening.position; times = written_times opening.times }

-- nodes as they are written
abbrev pub written : Nodes Placed → Nodes Asked
written End = End
written (Markup bytes rest) = Markup bytes (written rest)
written (Slot slot rest) = Slot slot.asked (written rest)
written (Fragment slot rest) = Fragment slot (written rest)
written (Section opening body otherwise rest) = Section (written_opening opening) (written body) (written otherwise) (written rest)
