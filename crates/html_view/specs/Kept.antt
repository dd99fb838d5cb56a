-- The nodes that the code keeps.
use Rattle.std.specs.Prelude.{List, [], ◌∷◌, map}
use Rattle.html_view.specs.CutNames.{words_in}
use Rattle.html_view.specs.Names.{words_of}
use Rattle.html_view.specs.Nodes as node
use Rattle.html_view.specs.Nodes.{Nodes, written_opening}
use Rattle.html_view.specs.declared.node.Asked.{Asked}
use Rattle.html_view.specs.declared.node.Node.{Node, fold-Node}
use Rattle.html_view.specs.declared.node.Node.TheOpen.{Node-F}
use Rattle.html_view.specs.declared.node.Opening.{Opening}
use Rattle.html_view.specs.declared.placed.Named.{Named}
use Rattle.html_view.specs.declared.placed.Opened.{Opened}
use Rattle.html_view.specs.declared.placed.Placed.{Placed}
use Rattle.html_view.specs.declared.placed.PlacedNode.{PlacedNode, fold-PlacedNode}
use Rattle.html_view.specs.declared.placed.PlacedNode.TheOpen.{PlacedNode-F}

abbrev pub opening_of : Opening → node.Opening
opening_of opening = record { name = words_of opening.name.now; position = opening.position; times = opening.times }

abbrev pub asked_of : Asked → node.Asked
asked_of slot = record { name = words_of slot.name.now; position = slot.position }

-- nodes, before those that follow them
abbrev pub Before : Type 0 → Type 0
Before S = Nodes S → Nodes S

abbrev pub behind : {S : Type 0} → List (Before S) → Before S
behind [] rest = rest
behind (first ∷ others) rest = first (behind others rest)

-- as they are written
abbrev pub asked_step : {A : Type 0} → Node-F A (Before node.Asked) → Before node.Asked
asked_step (Node-F.Markup text p) rest = node.Markup text.now rest
asked_step (Node-F.Slot slot) rest = node.Slot (asked_of slot) rest
asked_step (Node-F.Fragment slot) rest = node.Fragment (asked_of slot) rest
asked_step (Node-F.Section opening body otherwise) rest =
    node.Section (written_opening (opening_of opening)) (behind body.items node.End) (behind otherwise.items node.End) rest

abbrev pub asked_node : {A : Type 0} → Node A → Before node.Asked
asked_node {A} = fold-Node A (Before node.Asked) asked_step

abbrev pub asked_nodes : {A : Type 0} → List (Node A) → Before node.Asked
asked_nodes nodes = behind (map asked_node nodes)

-- and as they are placed
abbrev pub named_of : {A : Type 0} → Named A → node.Asked
named_of named = record { name = words_in named.words; position = named.position }

abbrev pub slot_of : {A : Type 0} → Placed A → node.Placed
slot_of slot = record { asked = named_of slot.asked; place = slot.checked.stored.place; kind = slot.checked.stored.kind }

abbrev pub opened_of : {A : Type 0} → Opened A → node.Opening
opened_of opened = record { name = words_in opened.tag.words; position = opened.tag.position; times = opened.times }

abbrev pub placed_step : {A : Type 0} → PlacedNode-F A (Before node.Placed) → Before node.Placed
placed_step (PlacedNode-F.Markup markup) rest = node.Markup markup.text.now rest
placed_step (PlacedNode-F.Slot slot) rest = node.Slot (slot_of slot) rest
placed_step (PlacedNode-F.Fragment slot) rest = node.Fragment (named_of slot) rest
placed_step (PlacedNode-F.Section opened body otherwise) rest =
    node.Section (opened_of opened) (behind body.items node.End) (behind otherwise.items node.End) rest

abbrev pub placed_node : {A : Type 0} → PlacedNode A → Before node.Placed
placed_node {A} = fold-PlacedNode A (Before node.Placed) placed_step

abbrev pub placed_nodes : {A : Type 0} → List (PlacedNode A) → Before node.Placed
placed_nodes nodes = behind (map placed_node nodes)

abbrev pub nodes_of : {A : Type 0} → List (PlacedNode A) → Nodes node.Placed
nodes_of nodes = placed_nodes nodes node.End
