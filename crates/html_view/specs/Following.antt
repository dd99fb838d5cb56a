-- The ways that the code holds, and where they go.
use Rattle.std.specs.Prelude.{◌≡◌, ℕ, List, ◌∷◌, Result, Ok, Err, map}
use Rattle.html_template.specs.OpenUrls.{before}
use Rattle.html_template.specs.declared.faults.PartFault.{PartFault}
use Rattle.html_template.specs.declared.open_url.PlacedSlot.{PlacedSlot}
use Rattle.html_tokenizer.specs.Tokenizer.Phases.{tokenizer_of}
use Rattle.html_view.specs.Kept.{Before}
use Rattle.html_view.specs.Nodes.{Asked, Nodes, Placed, written}
use Rattle.html_view.specs.Takes.{AreAmong, LeadsBack, Takes}
use Rattle.html_view.specs.Ways as spec
use Rattle.html_view.specs.Ways.{past_slot, way_slot}
use Rattle.html_view.specs.declared.node.Times.{Times}
use Rattle.html_view.specs.declared.way.Way.{Way}
use Rattle.html_view.specs.declared.ways.Ways.{Ways}

abbrev pub way_of : {A : Type 0} → Way A → spec.Way
way_of way = record { tokenizer = tokenizer_of way.reader; markup = way.markup.items; url = way.url }

abbrev pub ways_of : {A : Type 0} → Ways A → List spec.Way
ways_of ways = way_of ways.first ∷ map way_of ways.others.items

-- a way goes on where is told, or the fault is
abbrev pub Moves : {T : Type 0} → Result spec.Way PartFault → spec.Way → Result T PartFault → Type 0
Moves told new (Ok done) = told ≡ Ok new
Moves told new (Err why) = told ≡ Err why

-- and past the slot that is told, before this markup
pub record MovedPast (next : List ℕ) (old new : spec.Way) (slot : PlacedSlot) : Type 0 where
  pub found : PlacedSlot
  pub stands : way_slot old ≡ Ok found
  pub is : slot ≡ before next found
  pub past : new ≡ past_slot old slot

abbrev pub MovesPast : List ℕ → spec.Way → spec.Way → Result PlacedSlot PartFault → Type 0
MovesPast next old new (Ok slot) = MovedPast next old new slot
MovesPast next old new (Err why) = way_slot old ≡ Err why

-- nodes as they are placed are those that were written, and each of the ways leads through them, to one of the next ones
pub record Follows (asked : Before Asked) (placed : Before Placed) (ways next : List spec.Way) : Type 0 where
  pub same : (rest : Nodes Placed) → written (placed rest) ≡ asked (written rest)
  pub takes : (rest : Nodes Placed) (others : List spec.Way) → Takes next rest others → Takes ways (placed rest) others

-- behind nodes that are followed to these ways, a node that was placed is followed from them
abbrev pub Adds : Before Asked → Before Placed → Before Placed → List spec.Way → List spec.Way → Type 0
Adds asked old new ways next =
    (front : Before Asked) (first : List spec.Way) → Follows front old first ways → Follows (λ rest. front (asked rest)) new first next

-- the same of a body that may stand so often, from these ways on or more
pub record FollowsBody (asked : Before Asked) (placed : Before Placed) (times : Times) (ways out : List spec.Way) : Type 0 where
  pub head : List spec.Way
  pub begins : AreAmong ways head
  pub body : Follows asked placed head out
  pub back : LeadsBack times out head
