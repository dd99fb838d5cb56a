-- What the steps of a run come to.
use Rattle.std.proofs.Common.{◌≡◌, ℕ, List, Option, Result, Ok, Err}
use Rattle.hesc_commands.specs.Commands.{words_of}
use Rattle.hesc_tool.specs.Run.{RanAs}
use Rattle.hesc_tool.specs.Steps.{AnsweredAs, WasTaken}
use Rattle.hesc_commands.specs.declared.commands.Command.{Command}
use Rattle.hesc_tool.specs.declared.faults.Fault.{Fault}
use Rattle.hesc_tool.specs.declared.faults.Fault.TheVariants.{Usage, Read, NotUtf8, NoPage, NotForPlace, EmptyUnquoted, BadName, Memory, Write}

-- the words name a command, all of the input was read, and the command's answer was written
pub ran : (words : List (List ℕ)) (command : Command) (input : List ℕ) (reader reader' writer writer' : Option (List ℕ))
    (result : Result (Unit {0}) Fault) → words_of command ≡ words → WasTaken command reader reader' input
    → AnsweredAs command input writer writer' result → RanAs words reader reader' writer writer' result
ran words command input reader reader' writer writer' (Ok _) named read answered =
    (answered.0, (command, input, named, read, answered.1), answered.2)
ran words command input reader reader' writer writer' (Err Usage) named read answered = absurd answered
ran words command input reader reader' writer writer' (Err Read) named read answered = absurd answered
ran words command input reader reader' writer writer' (Err Memory) named read answered = ((command, named), answered)
ran words command input reader reader' writer writer' (Err Write) named read answered =
    (answered.0, (command, input, named, read, answered.1), answered.2)
ran words command input reader reader' writer writer' (Err NotUtf8) named read answered =
    ((command, input, named, read, answered.0), answered.1)
ran words command input reader reader' writer writer' (Err NoPage) named read answered =
    ((command, input, named, read, answered.0), answered.1)
ran words command input reader reader' writer writer' (Err NotForPlace) named read answered =
    ((command, input, named, read, answered.0), answered.1)
ran words command input reader reader' writer writer' (Err EmptyUnquoted) named read answered =
    ((command, input, named, read, answered.0), answered.1)
ran words command input reader reader' writer writer' (Err BadName) named read answered =
    ((command, input, named, read, answered.0), answered.1)
