-- The words that call for a command for views, and for its files.
use Rattle.std.specs.Prelude.{◌≡◌, ℕ, List, [], ◌∷◌, codes, map, Result, Ok}
use Rattle.hesc_tool.specs.declared.faults.Fault.{Fault}
use Rattle.hesc_views.specs.declared.words.Call.{Call}
use Rattle.hesc_views.specs.declared.words.Command.{Command}
use Rattle.hesc_views.specs.declared.words.Command.TheVariants.{Render, Check}

abbrev pub command_name : Command → List ℕ
command_name Render = codes "render"
command_name Check = codes "check"

abbrev pub IsCommandName : List ℕ → Type 0
IsCommandName word = (command : Command) × (command_name command ≡ word)

-- the words of a call
abbrev pub words_of : Call → List (List ℕ)
words_of call = command_name call.command ∷ (call.view.now ∷ map (λ path. path.now) call.partials.now)

-- the words are those of no call
abbrev pub CallForNothing : List (List ℕ) → Type 0
CallForNothing words = (call : Call) → words_of call ≡ words → ⊥

-- the paths of the files are the words behind the first
abbrev pub paths_in : List (List ℕ) → List (List ℕ)
paths_in [] = []
paths_in (word ∷ paths) = paths

-- the words could be had, and the first is the name of a command for views
abbrev pub AreForViews : Result (List (List ℕ)) Fault → Type 0
AreForViews (Ok (word ∷ words)) = IsCommandName word
AreForViews other = ⊥
