-- What a run reads, writes and answers.
use Rattle.std.specs.Prelude.{◌≡◌, ⊤, ℕ, List, [], ◌∷◌, map, Option, Result, Ok, Err}
use Rattle.std.specs.Io.KnownBytes.{Appends, Keeps}
use Rattle.html_view.specs.Nodes.{Nodes, Placed, written}
use Rattle.html_view.specs.Reading.{PartialText}
use Rattle.html_view.specs.Spelled.{IsSpelled}
use Rattle.html_view.specs.Unrolled.{AreTemplates}
use Rattle.json.specs.Json.{Json}
use Rattle.hesc_specs.specs.Text.Beginning.{AppendsBeginning}
use Rattle.hesc_tool.specs.Steps.{WasRead}
use Rattle.hesc_views.specs.Names.{name_in}
use Rattle.hesc_views.specs.Pages.{IsPageFor, IsStrictly}
use Rattle.hesc_views.specs.Sources.{AreTextsOf, Files, IsTextOf}
use Rattle.hesc_views.specs.Words.{CallForNothing, words_of}
use Rattle.hesc_views.specs.declared.faults.Fault.{Fault}
use Rattle.hesc_views.specs.declared.faults.Fault.TheVariants.{Usage, UnreadableFile, FileNotUtf8, Memory, Write}
use Rattle.hesc_views.specs.declared.words.Call.{Call}
use Rattle.hesc_views.specs.declared.words.Command.{Command}
use Rattle.hesc_views.specs.declared.words.Command.TheVariants.{Render, Check}

-- a fault that reading the files can end in
abbrev pub IsFileFault : Fault → Type 0
IsFileFault (UnreadableFile file) = ⊤
IsFileFault (FileNotUtf8 file) = ⊤
IsFileFault Memory = ⊤
IsFileFault other = ⊥

-- a fault but that of the words and that of the writer
abbrev pub IsMakingFault : Fault → Type 0
IsMakingFault Usage = ⊥
IsMakingFault Write = ⊥
IsMakingFault other = ⊤

-- each text with the name of its path
abbrev pub partials_named : List (List ℕ) → List (List ℕ) → List PartialText
partials_named (path ∷ paths) (text ∷ texts) = record { name = name_in path; source = text } ∷ partials_named paths texts
partials_named paths texts = []

-- the nodes are those of a view of this text, and of partials with these paths and texts
pub record AreOfView (paths : List (List ℕ)) (view : List ℕ) (partials : List (List ℕ)) (nodes : Nodes Placed) : Type 0 where
  pub source : IsSpelled (partials_named paths partials) view (written nodes)
  pub sound : AreTemplates nodes

-- the text is a page of a view for the JSON that was read; or nothing was read, where the command only checks
abbrev pub Answers : Command → Nodes Placed → Option (List ℕ) → Option (List ℕ) → List ℕ → Type 0
Answers Render nodes reader reader' text =
    (json : List ℕ) × (value : Json) × WasRead reader reader' json × IsStrictly json value × IsPageFor nodes value text
Answers Check nodes reader reader' text = Keeps reader reader'

-- the same for the view of these texts
abbrev pub AnswersTexts : Call → List ℕ → List (List ℕ) → Option (List ℕ) → Option (List ℕ) → List ℕ → Type 0
AnswersTexts call view partials reader reader' text =
    (nodes : Nodes Placed) × AreOfView (map (λ path. path.now) call.partials.now) view partials nodes
    × Answers call.command nodes reader reader' text

-- for the texts of the files, where these are known
abbrev pub AnswersFiles : Files → Call → Option (List ℕ) → Option (List ℕ) → List ℕ → Type 0
AnswersFiles files call reader reader' text =
    (view : List ℕ) × (partials : List (List ℕ)) × IsTextOf (files call.view.now) view
    × AreTextsOf files (map (λ path. path.now) call.partials.now) partials × AnswersTexts call view partials reader reader' text

-- the words call for a command, and this is its text
abbrev pub AnswersCall : Files → List (List ℕ) → Option (List ℕ) → Option (List ℕ) → List ℕ → Type 0
AnswersCall files words reader reader' text = (call : Call) × (words_of call ≡ words) × AnswersFiles files call reader reader' text

-- a run, by the files, by its words, by its reader and its writer before and after, and by what it answers: a fault, but for that of the writer,
-- leaves the output as it was
abbrev pub RanAs : Files → List (List ℕ) → Option (List ℕ) → Option (List ℕ) → Option (List ℕ) → Option (List ℕ)
    → Result (Unit {0}) Fault → Type 0
RanAs files words reader reader' writer writer' (Ok _) =
    (text : List ℕ) × AnswersCall files words reader reader' text × Appends writer writer' text
RanAs files words reader reader' writer writer' (Err Write) =
    (text : List ℕ) × AnswersCall files words reader reader' text × AppendsBeginning writer writer' text
RanAs files words reader reader' writer writer' (Err Usage) =
    CallForNothing words × Keeps reader reader' × Keeps writer writer'
RanAs files words reader reader' writer writer' (Err other) = Keeps writer writer'
