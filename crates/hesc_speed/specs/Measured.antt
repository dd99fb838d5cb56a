-- The operations that are measured, by their numbers, and what a call answers whose operation is one of them.
use Rattle.std.specs.Prelude.{◌≡◌, ◌≢◌, ⊤, ℕ, ◌-◌, ◌*◌, ◌^◌, ◌==◌, Bool, true, false, List, [], Option, Some, None, if◌then◌else◌, length, take}
use Rattle.html_escape.specs.Operations.{operation_changes, operation_text}
use Rattle.html_escape.specs.declared.decoder.Decoder.TheVariants as decoder
use Rattle.html_escape.specs.declared.encoder.Encoder.TheVariants as encoder
use Rattle.html_escape.specs.declared.operation.Operation.{Operation}
use Rattle.html_escape.specs.declared.operation.Operation.TheVariants.{Encode, Decode}

-- the operation that a number stands for, if it stands for one
abbrev pub operation_of : ℕ → Option Operation
operation_of number =
    if number == 0 then Some (Encode encoder.Text)
    else (if number == 1 then Some (Encode encoder.DoubleQuotedAttribute)
    else (if number == 2 then Some (Encode encoder.Safe)
    else (if number == 3 then Some (Encode encoder.UnquotedAttribute)
    else (if number == 4 then Some (Encode encoder.Script)
    else (if number == 5 then Some (Encode encoder.ScriptQuoted)
    else (if number == 6 then Some (Decode decoder.HtmlEntities)
    else (if number == 7 then Some (Decode decoder.Script)
    else (if number == 8 then Some (Decode decoder.ScriptQuoted)
    else None))))))))

-- an operation has a number
abbrev pub is_measured : Operation → Bool
is_measured (Encode encoder.Text) = true
is_measured (Encode encoder.DoubleQuotedAttribute) = true
is_measured (Encode encoder.Safe) = true
is_measured (Encode encoder.UnquotedAttribute) = true
is_measured (Encode encoder.Script) = true
is_measured (Encode encoder.ScriptQuoted) = true
is_measured (Decode decoder.HtmlEntities) = true
is_measured (Decode decoder.Script) = true
is_measured (Decode decoder.ScriptQuoted) = true
is_measured operation = false

-- what a call answers that has no length to answer: the greatest number of 64 bits
abbrev pub refused : ℕ
refused = 2 ^ 64 - 1

-- the length of what the operation makes of the text, or that there is none
abbrev pub AnswersLength : Option Operation → List ℕ → ℕ → Type 0
AnswersLength None text answer = answer ≡ refused
AnswersLength (Some operation) text answer = answer ≢ refused → answer ≡ length (operation_text operation text)

-- the sum of the lengths of so many parts, each what the operation makes of the text, or that there is none
abbrev pub AnswersSum : Option Operation → ℕ → List ℕ → ℕ → Type 0
AnswersSum None times text answer = answer ≡ refused
AnswersSum (Some operation) times text answer = answer ≢ refused → answer ≡ times * length (operation_text operation text)

-- a text that the operation does not change needs no memory, and its length is answered
abbrev pub AnswersUnchanged : Option Operation → List ℕ → ℕ → Type 0
AnswersUnchanged None text answer = ⊤
AnswersUnchanged (Some operation) text answer = operation_changes operation text 0 ≡ [] → answer ≡ length text

-- nor does an empty text
abbrev pub AnswersEmpty : Option Operation → List ℕ → ℕ → Type 0
AnswersEmpty None text answer = ⊤
AnswersEmpty (Some operation) text answer = operation_text operation text ≡ [] → answer ≡ 0

-- the buffer begins with what the operation makes of the text, if the answer is its length
abbrev pub CopiesText : Option Operation → List ℕ → ℕ → List ℕ → Type 0
CopiesText None text answer buffer = ⊤
CopiesText (Some operation) text answer buffer = answer ≢ refused → take answer buffer ≡ operation_text operation text
