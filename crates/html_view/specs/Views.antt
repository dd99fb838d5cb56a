-- Views, and the pages of data.
use Rattle.std.specs.Prelude.{◌≡◌, ⊤, ℕ, List, [], ◌∷◌, ◌++◌, Option, Result, Ok, Err, map}
use Rattle.std.specs.Io.KnownBytes.{Appends}
use Rattle.hesc_specs.specs.Text.Beginning.{AppendsBeginning}
use Rattle.html_template.specs.FilledUrls.{HasUrlsOf}
use Rattle.html_template.specs.Fragments.{markup_in}
use Rattle.html_template.specs.Structure.{IsPageOf, JoinsWritten}
use Rattle.html_template.specs.Templates.{Given, part_of}
use Rattle.html_template.specs.declared.faults.WriteFault.{WriteFault}
use Rattle.html_template.specs.declared.fragment.FragmentBuf.{FragmentBuf}
use Rattle.html_template.specs.declared.faults.WriteFault.TheVariants.{Texts, Writer}
use Rattle.html_view.specs.Data.{Datum}
use Rattle.html_view.specs.Kept as kept
use Rattle.html_view.specs.Nodes.{Nodes, Placed}
use Rattle.html_view.specs.Rendered.{Unrolled, Unrolling, rendered, unrolled}
use Rattle.html_view.specs.Unrolled.{joined}
use Rattle.html_view.specs.declared.faults.DataFault.{DataFault}
use Rattle.html_view.specs.declared.faults.DataFault.TheVariants.{Value, Memory}
use Rattle.html_view.specs.declared.view.View.{View}

abbrev pub nodes_in : {A : Type 0} → View A → Nodes Placed
nodes_in view = kept.nodes_of view.nodes.items

-- what data makes of a view
abbrev pub unrolled_by : {A : Type 0} → View A → Datum → Unrolled
unrolled_by view datum = unrolled (nodes_in view) (datum ∷ [])

-- the parts of the unrolling's template
abbrev pub parts_of : Unrolling → List Given
parts_of found = map part_of (joined found.pieces)

-- the page was appended, or the first fault is answered and the output is as it was
abbrev pub Renders : {T : Type 0} → Unrolled → List ℕ → List ℕ → Result T DataFault → Type 0
Renders told old new (Ok done) = (found : Unrolling) × (told ≡ Ok found) × (new ≡ old ++ rendered found)
Renders told old new (Err (Value position why)) = (told ≡ Err (position, why)) × (new ≡ old)
Renders told old new (Err Memory) = new ≡ old

-- the page is a fragment, or the first fault is answered
abbrev pub MakesFragment : {A : Type 0} → Unrolled → Result (FragmentBuf A) DataFault → Type 0
MakesFragment told (Ok fragment) = (found : Unrolling) × (told ≡ Ok found) × (markup_in fragment ≡ rendered found)
MakesFragment told (Err (Value position why)) = told ≡ Err (position, why)
MakesFragment told (Err Memory) = ⊤

-- the page was written, or a beginning of it and then the writer's fault; or the first fault of the data is answered
abbrev pub Writes : {T : Type 0} → Unrolled → Option (List ℕ) → Option (List ℕ) → Result T (WriteFault DataFault) → Type 0
Writes told old new (Ok done) = (found : Unrolling) × (told ≡ Ok found) × Appends old new (rendered found)
Writes told old new (Err (Writer refusal)) = (found : Unrolling) × (told ≡ Ok found) × AppendsBeginning old new (rendered found)
Writes told old new (Err (Texts (Value position why))) = told ≡ Err (position, why)
Writes told old new (Err (Texts Memory)) = ⊤

-- a fault of the data, or that memory ran out before the page was begun
abbrev pub IsOfTexts : {F : Type 0} → WriteFault F → Type 0
IsOfTexts (Texts fault) = ⊤
IsOfTexts (Writer refusal) = ⊥

-- what data makes is a page, whose URLs are those of the unrolling, filled by the texts; and behind a page it makes a page of the
-- joined parts
pub record AddsPage (told : Unrolled) (old new : List ℕ) : Type 0 where
  pub page : (found : Unrolling) → told ≡ Ok found → IsPageOf (parts_of found) found.texts (rendered found)
  pub joins : (found : Unrolling) → told ≡ Ok found → (parts : List Given) (before : List (List ℕ)) → IsPageOf parts before old →
      IsPageOf (parts ++ parts_of found) (before ++ found.texts) new
  pub filled : (found : Unrolling) → told ≡ Ok found → HasUrlsOf (joined found.pieces) found.texts

-- the same of a writer, where it is known what it holds
pub record WritesPage (told : Unrolled) (old new : Option (List ℕ)) : Type 0 where
  pub page : (found : Unrolling) → told ≡ Ok found → IsPageOf (parts_of found) found.texts (rendered found)
  pub joins : (found : Unrolling) → told ≡ Ok found → JoinsWritten (parts_of found) found.texts old new
  pub filled : (found : Unrolling) → told ≡ Ok found → HasUrlsOf (joined found.pieces) found.texts
