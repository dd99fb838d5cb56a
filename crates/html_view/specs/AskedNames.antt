-- The names that nodes ask for, in the order of the nodes.
use Rattle.std.specs.Prelude.{◌≡◌, List, [], ◌∷◌, ◌++◌}
use Rattle.html_view.specs.Kept.{Before}
use Rattle.html_view.specs.Names.{words_of}
use Rattle.html_view.specs.Nodes as node
use Rattle.html_view.specs.Nodes.{Nodes, Placed, Words}
use Rattle.html_view.specs.declared.names.Name.{Name}
use Rattle.html_view.specs.declared.names.Name.TheVariants as name
use Rattle.html_view.specs.declared.node.Times.{Times}
use Rattle.html_view.specs.declared.node.Times.TheVariants as time

pub data AskedName : Type 0 where
  Slot : Words → AskedName
  Fragment : Words → AskedName
  Section : Words → AskedName
  Attributes : Words → AskedName

-- of a section those in its body, too, but for attributes
abbrev pub opened_names : Times → Words → List AskedName → List AskedName
opened_names time.Attributes name inner = Attributes name ∷ []
opened_names other name inner = Section name ∷ inner

abbrev pub names_in : Nodes Placed → List AskedName
names_in node.End = []
names_in (node.Markup bytes rest) = names_in rest
names_in (node.Slot slot rest) = Slot slot.asked.name ∷ names_in rest
names_in (node.Fragment slot rest) = Fragment slot.name ∷ names_in rest
names_in (node.Section opening body otherwise rest) =
    opened_names opening.times opening.name (names_in body) ++ (names_in otherwise ++ names_in rest)

-- as the code has it
abbrev pub asked_name : Name → AskedName
asked_name (name.Slot word) = Slot (words_of word.now)
asked_name (name.Fragment word) = Fragment (words_of word.now)
asked_name (name.Section word) = Section (words_of word.now)
asked_name (name.Attributes word) = Attributes (words_of word.now)

-- the names of the first nodes were added, whatever follows
abbrev pub AddsNames : List AskedName → Before Placed → List AskedName → Type 0
AddsNames old first new = (rest : Nodes Placed) → new ++ names_in rest ≡ old ++ names_in (first rest)
