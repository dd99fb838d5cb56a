-- What code puts of an unrolling, while it goes through nodes.
use Rattle.std.specs.Prelude.{◌≡◌, ℕ, List, [], ◌∷◌, ◌++◌, Result, Ok, Err}
use Rattle.std.specs.List.{AllByRecursion}
use Rattle.std.specs.Str.{IsUtf8}
use Rattle.hesc_specs.specs.Text.Beginning.{TookBeginning}
use Rattle.html_template.specs.Templates.{Chunk, Markup, page}
use Rattle.html_view.specs.Data.{Stack, item_stacks}
use Rattle.html_view.specs.Nodes.{Nodes, Placed}
use Rattle.html_view.specs.Rendered.{Unrolled, Unrolling, put_front, rendered, unrolled}
use Rattle.html_view.specs.Unrolled.{chunk_of}
use Rattle.html_view.specs.Values.{datum_of, items_in}
use Rattle.html_view.specs.Ways.{on_ok}
use Rattle.html_view.specs.declared.node.Times.{Times}
use Rattle.html_view.specs.declared.node.Times.TheVariants as time
use Rattle.html_view.specs.declared.unroll.Refusal.{Refusal}
use Rattle.html_view.specs.declared.unroll.Stand.{Stand}
use Rattle.html_view.specs.declared.unroll.Stand.TheVariants.{Never, Here, Inside, Each, Repeated}
use Rattle.html_view.specs.declared.unroll.Stop.{Stop}
use Rattle.html_view.specs.declared.unroll.Stop.TheVariants.{Refused, Failed}

abbrev pub both : Unrolling → Unrolling → Unrolling
both first second = record { pieces = first.pieces ++ second.pieces; texts = first.texts ++ second.texts }

abbrev pub markup_alone : List ℕ → Unrolling
markup_alone bytes = record { pieces = Markup bytes ∷ []; texts = [] }

abbrev pub text_alone : Placed → List ℕ → Unrolling
text_alone slot text = record { pieces = chunk_of slot ∷ []; texts = text ∷ [] }

-- its page is the beginning of each page that begins with it
abbrev pub Leads : Unrolling → Type 0
Leads front =
    (pieces : List Chunk) (texts : List (List ℕ)) → page (front.pieces ++ pieces) (front.texts ++ texts) ≡ rendered front ++ page pieces texts

-- the page of what data makes was put
pub record Put (told : Unrolled) (old new : List ℕ) : Type 0 where
  pub found : Unrolling
  pub same : told ≡ Ok found
  pub leads : Leads found
  pub utf8 : AllByRecursion IsUtf8 found.texts
  pub taken : new ≡ old ++ rendered found

-- or a beginning of it
abbrev pub PutBeginning : Unrolled → List ℕ → List ℕ → Type 0
PutBeginning told old new = (found : Unrolling) → told ≡ Ok found → TookBeginning old new (rendered found)

-- or there is none, and the fault is put down
abbrev pub Puts : {T F : Type 0} → Unrolled → List ℕ → List ℕ → Refusal → Result T (Stop F) → Type 0
Puts told old new refusal (Ok done) = Put told old new
Puts told old new refusal (Err Refused) = told ≡ Err (refusal.position, refusal.why)
Puts told old new refusal (Err (Failed fault)) = PutBeginning told old new

-- the page of what data makes of a node was put, whatever nodes follow
pub record PutFront (told : Nodes Placed → Unrolled) (stack : Stack) (old new : List ℕ) : Type 0 where
  pub front : Unrolling
  pub goes : (rest : Nodes Placed) → told rest ≡ on_ok (unrolled rest stack) (put_front front)
  pub leads : Leads front
  pub utf8 : AllByRecursion IsUtf8 front.texts
  pub taken : new ≡ old ++ rendered front

abbrev pub PutsFront : {T F : Type 0} → (Nodes Placed → Unrolled) → Stack → List ℕ → List ℕ → Refusal → Result T (Stop F) → Type 0
PutsFront told stack old new refusal (Ok done) = PutFront told stack old new
PutsFront told stack old new refusal (Err Refused) = (rest : Nodes Placed) → told rest ≡ Err (refusal.position, refusal.why)
PutsFront told stack old new refusal (Err (Failed fault)) = (rest : Nodes Placed) → PutBeginning (told rest) old new

-- the body of a section stands so: never; once, with the same around or with a value around, too; with each item of a list around; or
-- more often than it may
abbrev pub StandsSo : Times → List Stack → Stack → Stand → Type 0
StandsSo times told stack Never = told ≡ []
StandsSo times told stack Here = told ≡ stack ∷ []
StandsSo times told stack (Inside value) = told ≡ (datum_of value ∷ stack) ∷ []
StandsSo times told stack (Each items) =
    (times ≡ time.Each) × (first : Stack) × (more : List Stack) × (told ≡ first ∷ more) × (told ≡ item_stacks (items_in items) stack)
StandsSo times told stack Repeated =
    (times ≡ time.Once) × (first : Stack) × (second : Stack) × (more : List Stack) × (told ≡ first ∷ second ∷ more)
