-- The unrollings of nodes: lists of markup and slots, with no section left.
use Rattle.std.specs.Prelude.{◌≡◌, ◌⊎◌, ℕ, List, [], ◌∷◌, ◌++◌, Ok, map}
use Rattle.std.specs.List.{AllByRecursion}
use Rattle.html_template.specs.Structure.{IsWhole}
use Rattle.html_template.specs.TemplateFaults.{template_of}
use Rattle.html_template.specs.Templates.{Chunk, Markup, Slot, part_of}
use Rattle.html_view.specs.Nodes as node
use Rattle.html_view.specs.Nodes.{Nodes, Placed}
use Rattle.html_view.specs.declared.node.Times.{Times}
use Rattle.html_view.specs.declared.node.Times.TheVariants.{Each}

abbrev pub all_of : List (List Chunk) → List Chunk
all_of [] = []
all_of (first ∷ passes) = first ++ all_of passes

abbrev pub chunk_of : Placed → Chunk
chunk_of slot = Slot slot.place slot.kind

-- a pass, and any number of others
abbrev pub Repeats : (List Chunk → Type 0) → List Chunk → Type 0
Repeats IsPass pieces =
    (first : List Chunk) × (passes : List (List Chunk)) × (pieces ≡ first ++ all_of passes) × IsPass first × AllByRecursion IsPass passes

-- as often as the body may stand
abbrev pub Stands : Times → (List Chunk → Type 0) → List Chunk → Type 0
Stands Each IsPass pieces = Repeats IsPass pieces
Stands other IsPass pieces = IsPass pieces

-- the pieces are an unrolling of the nodes: of each section the body stands in it, or what stands where the body does not, and of a slot
-- for a fragment any that is whole
abbrev pub Unrolls : Nodes Placed → List Chunk → Type 0
Unrolls node.End pieces = pieces ≡ []
Unrolls (node.Markup bytes rest) pieces = (more : List Chunk) × (pieces ≡ Markup bytes ∷ more) × Unrolls rest more
Unrolls (node.Slot slot rest) pieces = (more : List Chunk) × (pieces ≡ chunk_of slot ∷ more) × Unrolls rest more
Unrolls (node.Fragment slot rest) pieces =
    (markup : List ℕ) × (more : List Chunk) × IsWhole markup × (pieces ≡ Markup markup ∷ more) × Unrolls rest more
Unrolls (node.Section opening body otherwise rest) pieces =
    (one : List Chunk) × (more : List Chunk) × (pieces ≡ one ++ more)
    × (Stands opening.times (λ pass. Unrolls body pass) one ⊎ Unrolls otherwise one) × Unrolls rest more

-- the same pieces, where markup is joined: markup and slots take turns, as `NamedTemplate` has them
abbrev pub joined_behind : List ℕ → List Chunk → List Chunk
joined_behind markup [] = Markup markup ∷ []
joined_behind markup (Markup bytes ∷ pieces) = joined_behind (markup ++ bytes) pieces
joined_behind markup (Slot p kind ∷ pieces) = Markup markup ∷ Slot p kind ∷ joined_behind [] pieces

abbrev pub joined : List Chunk → List Chunk
joined pieces = joined_behind [] pieces

-- each unrolling is a template, whose slots stand as in the nodes
abbrev pub AreTemplates : Nodes Placed → Type 0
AreTemplates nodes = (pieces : List Chunk) → Unrolls nodes pieces → template_of (map part_of (joined pieces)) ≡ Ok (joined pieces)
