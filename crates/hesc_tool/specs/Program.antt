-- What the program does with the words that the system gave it, and how it ends.
use Rattle.std.specs.Prelude.{◌≡◌, ℕ, List, [], ◌∷◌, ◌++◌, ◌⊎◌, drop, map, Option, Result, String, Ok, Err}
use Rattle.std.specs.Io.KnownBytes.{Keeps}
use Rattle.std.specs.IoError.{error_kind}
use Rattle.std.specs.String.{string_bytes}
use Rattle.std.specs.Vec.Iter.{into_iter_items}
use Rattle.std.specs.declared.io.Error.{Error}
use Rattle.std.specs.declared.io.ErrorKind.{ErrorKind}
use Rattle.std.specs.declared.io.ErrorKind.TheVariants.{OutOfMemory}
use Rattle.std.specs.declared.vec.IntoIter.{IntoIter}
use Rattle.hesc_specs.specs.Text.Ascii.{line_feed}
use Rattle.hesc_specs.specs.Text.Beginning.{AppendsBeginning}
use Rattle.hesc_tool.specs.Faults.{line_of, status_of}
use Rattle.hesc_tool.specs.Run.{RanAs}
use Rattle.hesc_tool.specs.declared.faults.Fault.{Fault}
use Rattle.hesc_tool.specs.declared.faults.Fault.TheVariants.{Usage, Memory}

-- the fault that stands for words that could not be had, by the kind of what went wrong
abbrev pub fault_without_words : ErrorKind → Fault
fault_without_words OutOfMemory = Memory
fault_without_words _ = Usage

-- the words after the program's name, or the fault that stands for them
abbrev pub words_given : {A : Type 0} → Result (IntoIter (String A) A) Error → Result (List (List ℕ)) Fault
words_given (Ok words) = Ok (map string_bytes (drop 1 (into_iter_items words)))
words_given (Err error) = Err (fault_without_words (error_kind error))

-- this fault is the outcome, and nothing was read or written
abbrev pub EndsAtOnce : Fault → Option (List ℕ) → Option (List ℕ) → Option (List ℕ) → Option (List ℕ)
    → Result (Unit {0}) Fault → Type 0
EndsAtOnce fault reader reader' writer writer' outcome =
    (outcome ≡ Err fault) × Keeps reader reader' × Keeps writer writer'

-- what comes of the words that were given: a run, unless the list of words finds no memory
abbrev pub WentAs : Result (List (List ℕ)) Fault → Option (List ℕ) → Option (List ℕ) → Option (List ℕ) → Option (List ℕ)
    → Result (Unit {0}) Fault → Type 0
WentAs (Ok words) reader reader' writer writer' outcome =
    RanAs words reader reader' writer writer' outcome ⊎ EndsAtOnce Memory reader reader' writer writer' outcome
WentAs (Err fault) reader reader' writer writer' outcome = EndsAtOnce fault reader reader' writer writer' outcome

-- the status of an outcome, and what the error stream gets: the fault's line, or a beginning of it where the stream fails
abbrev pub EndsAs : Result (Unit {0}) Fault → Option (List ℕ) → Option (List ℕ) → ℕ → Type 0
EndsAs (Ok _) errors errors' status = (status ≡ 0) × Keeps errors errors'
EndsAs (Err fault) errors errors' status =
    (status ≡ status_of fault) × AppendsBeginning errors errors' (line_of fault ++ line_feed ∷ [])

-- the program, by its words, by its reader, its writer and its error stream before and after, and by its status
abbrev pub ServedAs : Result (List (List ℕ)) Fault → Option (List ℕ) → Option (List ℕ) → Option (List ℕ) → Option (List ℕ)
    → Option (List ℕ) → Option (List ℕ) → ℕ → Type 0
ServedAs words reader reader' writer writer' errors errors' status =
    (outcome : Result (Unit {0}) Fault) × WentAs words reader reader' writer writer' outcome × EndsAs outcome errors errors' status
