-- What the program does with the words that the system gave it, and how it ends.
use Rattle.std.specs.Prelude.{◌≡◌, ◌⊎◌, ℕ, List, [], ◌∷◌, ◌++◌, Option, Result, Ok, Err}
use Rattle.std.specs.Io.KnownBytes.{Keeps}
use Rattle.hesc_specs.specs.Text.Ascii.{line_feed}
use Rattle.hesc_specs.specs.Text.Beginning.{AppendsBeginning}
use Rattle.hesc_tool.specs.Faults as tool
use Rattle.hesc_tool.specs.declared.faults.Fault as tool_fault
use Rattle.hesc_views.specs.Faults.{line_text, status_of}
use Rattle.hesc_views.specs.Run.{RanAs}
use Rattle.hesc_views.specs.Sources.{Files}
use Rattle.hesc_views.specs.Words.{paths_in}
use Rattle.hesc_views.specs.declared.faults.Fault.{Fault}
use Rattle.hesc_views.specs.declared.faults.Fault.TheVariants.{Memory}

-- the error stream got this line, or a beginning of it where the stream fails
abbrev pub Tells : List ℕ → Option (List ℕ) → Option (List ℕ) → Type 0
Tells line errors errors' = AppendsBeginning errors errors' (line ++ line_feed ∷ [])

-- it got the line of a fault of these files, or that of `Memory` where there is no memory for the line
abbrev pub TellsFault : List (List ℕ) → Fault → Option (List ℕ) → Option (List ℕ) → Type 0
TellsFault paths fault errors errors' = Tells (line_text paths fault) errors errors' ⊎ Tells (line_text paths Memory) errors errors'

-- the status of an outcome, and what the error stream got
abbrev pub EndsAs : List (List ℕ) → Result (Unit {0}) Fault → Option (List ℕ) → Option (List ℕ) → ℕ → Type 0
EndsAs words (Ok _) errors errors' status = (status ≡ 0) × Keeps errors errors'
EndsAs words (Err fault) errors errors' status = (status ≡ status_of fault) × TellsFault (paths_in words) fault errors errors'

-- the program, by the files, by its words, by its reader, its writer and its error stream before and after, and by its status
abbrev pub ServedAs : Files → Result (List (List ℕ)) tool_fault.Fault → Option (List ℕ) → Option (List ℕ) → Option (List ℕ) → Option (List ℕ)
    → Option (List ℕ) → Option (List ℕ) → ℕ → Type 0
ServedAs files (Ok words) reader reader' writer writer' errors errors' status =
    (outcome : Result (Unit {0}) Fault) × RanAs files words reader reader' writer writer' outcome × EndsAs words outcome errors errors' status
ServedAs files (Err fault) reader reader' writer writer' errors errors' status =
    Keeps reader reader' × Keeps writer writer' × (status ≡ tool.status_of fault) × Tells (tool.line_of fault) errors errors'
