-- The ways through nodes: each way that leads to a node leads through it, to one of the ways behind it, and at a slot all ways give
-- one place and kind.
use Rattle.std.specs.Prelude.{◌≡◌, ◌⊎◌, ⊤, ℕ, List, [], ◌∷◌, Ok}
use Rattle.html_template.specs.OpenUrls.{before}
use Rattle.html_template.specs.declared.open_url.PlacedSlot.{PlacedSlot}
use Rattle.html_view.specs.Nodes as node
use Rattle.html_view.specs.Nodes.{Nodes, Placed}
use Rattle.html_view.specs.Ways.{MayEnd, Way, first_way, past_slot, way_behind, way_slot}
use Rattle.html_view.specs.declared.node.Times.{Times}
use Rattle.html_view.specs.declared.node.Times.TheVariants.{Each}

abbrev pub Among : Way → List Way → Type 0
Among way [] = ⊥
Among way (first ∷ ways) = (way ≡ first) ⊎ Among way ways

abbrev pub AreAmong : List Way → List Way → Type 0
AreAmong ways others = (way : Way) → Among way ways → Among way others

-- a way goes on behind markup, on one of these
pub record GoesOn (way : Way) (bytes : List ℕ) (ways : List Way) : Type 0 where
  pub next : Way
  pub goes : way_behind way bytes ≡ Ok next
  pub among : Among next ways

-- and behind a slot, which stands as was found, where this is guessed to follow it
pub record GoesPast (way : Way) (slot : Placed) (ways : List Way) : Type 0 where
  pub found : PlacedSlot
  pub stands : way_slot way ≡ Ok found
  pub guess : List ℕ
  pub place : (before guess found).place ≡ slot.place
  pub kind : (before guess found).kind ≡ slot.kind
  pub among : Among (past_slot way (before guess found)) ways

-- a fragment stands where a page may begin, and leads back there
abbrev pub GoesOver : Way → List Way → Type 0
GoesOver way ways = (way ≡ first_way) × Among way ways

-- a body that may be repeated leads back to where it begins
abbrev pub LeadsBack : Times → List Way → List Way → Type 0
LeadsBack Each out head = AreAmong out head
LeadsBack other out head = ⊤

-- each of the first ways leads through the nodes, to one of the others
abbrev pub Takes : List Way → Nodes Placed → List Way → Type 0
Takes ways node.End others = AreAmong ways others
Takes ways (node.Markup bytes rest) others =
    (next : List Way) × ((way : Way) → Among way ways → GoesOn way bytes next) × Takes next rest others
Takes ways (node.Slot slot rest) others =
    (next : List Way) × ((way : Way) → Among way ways → GoesPast way slot next) × Takes next rest others
Takes ways (node.Fragment slot rest) others =
    (next : List Way) × ((way : Way) → Among way ways → GoesOver way next) × Takes next rest others
Takes ways (node.Section opening body otherwise rest) others =
    (head : List Way) × (out : List Way) × (next : List Way) × AreAmong ways head × Takes head body out
    × LeadsBack opening.times out head × AreAmong out next × Takes ways otherwise next × Takes next rest others

-- the nodes are those of a template: on each way through them a page may end
pub record AreSound (nodes : Nodes Placed) : Type 0 where
  pub ways : List Way
  pub taken : Takes (first_way ∷ []) nodes ways
  pub end : (way : Way) → Among way ways → MayEnd way
