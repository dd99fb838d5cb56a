-- What the steps of a run do to the bytes that its reader has left and its writer holds.
use Rattle.std.specs.Prelude.{◌≡◌, ℕ, List, [], ⊤, Option, Result, Vec, Ok, Err}
use Rattle.std.specs.Io.KnownBytes.{Appends, Consumes, IsAtEnd, Keeps}
use Rattle.hesc_specs.specs.Text.Beginning.{AppendsBeginning}
use Rattle.hesc_tool.specs.Answers.{Answers}
use Rattle.hesc_commands.specs.Commands.{ReadsInput}
use Rattle.hesc_commands.specs.declared.commands.Command.{Command}
use Rattle.hesc_commands.specs.declared.commands.Command.TheVariants.{Page, Form}
use Rattle.hesc_tool.specs.declared.faults.Fault.{Fault}
use Rattle.hesc_tool.specs.declared.faults.Fault.TheVariants.{Usage, Read, Memory, Write}

-- the reader gave these bytes, and then its end
abbrev pub WasRead : Option (List ℕ) → Option (List ℕ) → List ℕ → Type 0
WasRead reader reader' bytes = Consumes reader reader' bytes × IsAtEnd reader'

-- the input of a command is all that the reader gave, or empty where the command reads none
abbrev pub WasTaken : Command → Option (List ℕ) → Option (List ℕ) → List ℕ → Type 0
WasTaken (Page first second third) reader reader' input = Keeps reader reader' × (input ≡ [])
WasTaken (Form form) reader reader' input = Keeps reader reader' × (input ≡ [])
WasTaken other reader reader' input = WasRead reader reader' input

-- a fault that reading can end in
abbrev pub IsReadingFault : Fault → Type 0
IsReadingFault Read = ⊤
IsReadingFault Memory = ⊤
IsReadingFault other = ⊥

-- a fault that taking a command's input can end in
abbrev pub IsTakingFault : Command → Fault → Type 0
IsTakingFault command Read = ReadsInput command
IsTakingFault command Memory = ⊤
IsTakingFault command other = ⊥

-- an answer of this kind was made in memory, or no memory was found
abbrev pub IsMade : {A : Type 0} → (Result (List ℕ) Fault → Type 0) → Result (Vec ℕ A) Fault → Type 0
IsMade IsAnswer (Ok made) = IsAnswer (Ok made.items)
IsMade IsAnswer (Err Usage) = ⊥
IsMade IsAnswer (Err Read) = ⊥
IsMade IsAnswer (Err Memory) = ⊤
IsMade IsAnswer (Err Write) = ⊥
IsMade IsAnswer (Err refusal) = IsAnswer (Err refusal)

-- a command's answer to an input was written, or a fault stands in its place
abbrev pub AnsweredAs : Command → List ℕ → Option (List ℕ) → Option (List ℕ) → Result (Unit {0}) Fault → Type 0
AnsweredAs command input writer writer' (Ok _) =
    (text : List ℕ) × Answers command input (Ok text) × Appends writer writer' text
AnsweredAs command input writer writer' (Err Usage) = ⊥
AnsweredAs command input writer writer' (Err Read) = ⊥
AnsweredAs command input writer writer' (Err Memory) = Keeps writer writer'
AnsweredAs command input writer writer' (Err Write) =
    (text : List ℕ) × Answers command input (Ok text) × AppendsBeginning writer writer' text
AnsweredAs command input writer writer' (Err refusal) =
    Answers command input (Err refusal) × Keeps writer writer'
