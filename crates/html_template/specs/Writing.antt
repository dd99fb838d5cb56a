-- What is answered when a page is written to a writer.
use Rattle.std.specs.Prelude.{◌≡◌, Option, Some, None, Result, Ok, Err}
use Rattle.html_template.specs.declared.faults.WriteFault.{WriteFault}
use Rattle.html_template.specs.declared.faults.WriteFault.TheVariants.{Texts, Writer}

-- the first fault of the texts, and where there is none no fault but the writer's own
abbrev pub AnswersWriting : {T F : Type 0} → Option F → Result T (WriteFault F) → Type 0
AnswersWriting fault (Ok done) = fault ≡ None
AnswersWriting fault (Err (Texts first)) = fault ≡ Some first
AnswersWriting fault (Err (Writer refusal)) = fault ≡ None
