-- What a run of the tool reads, writes and answers.
use Rattle.std.specs.Prelude.{◌≡◌, ℕ, List, Option, Result, Ok, Err}
use Rattle.std.specs.Io.KnownBytes.{Appends, Keeps}
use Rattle.hesc_specs.specs.Text.Beginning.{AppendsBeginning}
use Rattle.hesc_tool.specs.Answers.{Answers}
use Rattle.hesc_commands.specs.Commands.{NamesCommand, NamesNoCommand, ReadsInput, words_of}
use Rattle.hesc_tool.specs.Steps.{WasTaken}
use Rattle.hesc_commands.specs.declared.commands.Command.{Command}
use Rattle.hesc_tool.specs.declared.faults.Fault.{Fault}
use Rattle.hesc_tool.specs.declared.faults.Fault.TheVariants.{Usage, Read, Memory, Write}

-- the words name a command, and this is its answer to the input that it took
abbrev pub AnswersInput : List (List ℕ) → Option (List ℕ) → Option (List ℕ) → Result (List ℕ) Fault → Type 0
AnswersInput words reader reader' answer =
    (command : Command) × (input : List ℕ)
    × (words_of command ≡ words) × WasTaken command reader reader' input × Answers command input answer

-- a run, by its words, by its reader and its writer before and after, and by what it answers
abbrev pub RanAs : List (List ℕ) → Option (List ℕ) → Option (List ℕ) → Option (List ℕ) → Option (List ℕ)
    → Result (Unit {0}) Fault → Type 0
RanAs words reader reader' writer writer' (Ok _) =
    (text : List ℕ) × AnswersInput words reader reader' (Ok text) × Appends writer writer' text
RanAs words reader reader' writer writer' (Err Usage) =
    NamesNoCommand words × Keeps reader reader' × Keeps writer writer'
RanAs words reader reader' writer writer' (Err Read) =
    ((command : Command) × (words_of command ≡ words) × ReadsInput command) × Keeps writer writer'
RanAs words reader reader' writer writer' (Err Memory) =
    NamesCommand words × Keeps writer writer'
RanAs words reader reader' writer writer' (Err Write) =
    (text : List ℕ) × AnswersInput words reader reader' (Ok text) × AppendsBeginning writer writer' text
RanAs words reader reader' writer writer' (Err refusal) =
    AnswersInput words reader reader' (Err refusal) × Keeps writer writer'
