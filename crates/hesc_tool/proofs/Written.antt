-- What writing in several calls comes to.
use Rattle.std.proofs.Common.{◌≡◌, ℕ, ◌+◌, List, take, drop, sym, subst, take-add, take-append-drop, Option, Result, Ok, Err, OnOk, OnErr, IfErr}
use Rattle.std.proofs.KnownBytes.{Appends-trans}
use Rattle.std.specs.Io.KnownBytes.{Appends}
use Rattle.hesc_tool.specs.Answers.{Answers}
use Rattle.hesc_specs.specs.Text.Beginning.{AppendsBeginning}
use Rattle.hesc_tool.specs.Steps.{AnsweredAs}
use Rattle.hesc_commands.specs.declared.commands.Command.{Command}
use Rattle.hesc_tool.specs.declared.faults.Fault.{Fault}
use Rattle.hesc_tool.specs.declared.faults.Fault.TheVariants.{Usage, Read, NotUtf8, NoPage, NotForPlace, EmptyUnquoted, BadName, Memory, Write}

-- n bytes were written, and then the next m
pub Appends-next : (a b c : Option (List ℕ)) (bytes : List ℕ) (n m : ℕ)
    → Appends a b (take n bytes) → Appends b c (take m (drop n bytes)) → Appends a c (take (n + m) bytes)
Appends-next a b c bytes n m first next = subst (Appends a c) (sym (take-add n m bytes)) (Appends-trans a b c _ _ first next)

-- the first n bytes are a beginning
pub AppendsBeginning-take : (a b : Option (List ℕ)) (bytes : List ℕ) (n : ℕ)
    → Appends a b (take n bytes) → AppendsBeginning a b bytes
AppendsBeginning-take a b bytes n written = (take n bytes, (drop n bytes, take-append-drop n bytes), written)

-- a command's text was handed to `write_whole`
pub answered : (command : Command) (input text : List ℕ) (a b : Option (List ℕ)) (result : Result (Unit {0}) Fault)
    → Answers command input (Ok text) → OnOk result (Appends a b text) → OnErr result (AppendsBeginning a b text)
    → IfErr result (λ fault. fault ≡ Write) → AnsweredAs command input a b result
answered command input text a b (Ok _) answers all began fault = (text, answers, all)
answered command input text a b (Err Usage) answers all began fault = absurd (cc)
answered command input text a b (Err Read) answers all began fault = absurd (cc)
answered command input text a b (Err NotUtf8) answers all began fault = absurd (cc)
answered command input text a b (Err NoPage) answers all began fault = absurd (cc)
answered command input text a b (Err NotForPlace) answers all began fault = absurd (cc)
answered command input text a b (Err EmptyUnquoted) answers all began fault = absurd (cc)
answered command input text a b (Err BadName) answers all began fault = absurd (cc)
answered command input text a b (Err Memory) answers all began fault = absurd (cc)
answered command input text a b (Err Write) answers all began fault = (text, answers, began)
