-- What a view's data makes, appended.
use Rattle.std.specs.Prelude.{◌≡◌, ⊤, ℕ, List, Result, Ok, Err}
use Rattle.html_view.specs.Putting.{Put}
use Rattle.html_view.specs.Rendered.{Unrolled, Unrolling, unrolled}
use Rattle.html_view.specs.Kept.{nodes_of}
use Rattle.html_view.specs.Values.{stack_of}
use Rattle.html_view.specs.declared.append.Rendering.{Rendering}
use Rattle.html_view.specs.declared.faults.DataFault.{DataFault}
use Rattle.html_view.specs.declared.faults.DataFault.TheVariants.{Value, Memory}
use Rattle.html_view.specs.declared.unroll.Refusal.{Refusal}
use Rattle.html_view.specs.declared.unroll.Stop.{Stop}
use Rattle.html_view.specs.declared.unroll.Stop.TheVariants.{Refused, Failed}

abbrev pub told_by : {A : Type 0} → Rendering A → Unrolled
told_by rendering = unrolled (nodes_of rendering.nodes.now.items) (stack_of rendering.around.now)

-- a refusal is told where it was put down; a sink that fails has no more room
abbrev pub fault_of : {F : Type 0} → Stop F → Refusal → DataFault
fault_of Refused refusal = Value refusal.position refusal.why
fault_of (Failed fault) refusal = Memory

-- there is a page, or the first fault of the data
abbrev pub Answers : {T : Type 0} → Unrolled → Result T DataFault → Type 0
Answers told (Ok done) = (found : Unrolling) × (told ≡ Ok found)
Answers told (Err (Value position why)) = told ≡ Err (position, why)
Answers told (Err Memory) = ⊤

-- the page was put behind the output, or the output is as it was
abbrev pub PutsBehind : {T : Type 0} → Unrolled → List ℕ → List ℕ → Result T DataFault → Type 0
PutsBehind told old new (Ok done) = Put told old new
PutsBehind told old new (Err (Value position why)) = (told ≡ Err (position, why)) × (new ≡ old)
PutsBehind told old new (Err Memory) = new ≡ old
