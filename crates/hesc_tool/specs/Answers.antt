-- What a command answers to an input: its text, or the first refusal that applies.
use Rattle.std.specs.Prelude.{◌≡◌, ℕ, Bool, true, false, if◌then◌else◌, List, [], ◌∷◌, map, Option, Some, None, Result, Ok, Err}
use Rattle.std.specs.Str.{IsUtf8}
use Rattle.hesc_specs.specs.Bodies.Encoding.{body_encoding}
use Rattle.html_escape.specs.Operations.{operation_text}
use Rattle.html_escape.specs.declared.encoder.Encoder.{Encoder}
use Rattle.hesc_places.specs.Pages.AttributeReadings.{Entry}
use Rattle.hesc_places.specs.Places.Enclosed.{enclosed}
use Rattle.hesc_places.specs.Pages.FormFaults.{first_fault}
use Rattle.hesc_places.specs.Pages.FormReadings.{FormRead, form_reading}
use Rattle.hesc_places.specs.Pages.FormTexts.{form_text}
use Rattle.hesc_places.specs.Pages.PageReadings.{PageRead, page_reading}
use Rattle.hesc_places.specs.Pages.PageTexts.{page_text}
use Rattle.hesc_places.specs.Places.Suits.{suits}
use Rattle.hesc_places.specs.declared.markup.types.FormFault.{FormFault}
use Rattle.hesc_grammars.specs.declared.place.Place.{Place}
use Rattle.hesc_grammars.specs.declared.place.Place.TheVariants.{UnquotedAttribute}
use Rattle.hesc_tool.specs.Faults.{form_refusal}
use Rattle.hesc_commands.specs.FormWords.{AreWordsOf}
use Rattle.hesc_tool.specs.Lines.{form_lines, page_lines}
use Rattle.hesc_commands.specs.declared.commands.Command.{Command}
use Rattle.hesc_commands.specs.declared.commands.Command.TheVariants.{Operation, Lines, Enclose, Page, ReadPage, Form, ReadForm}
use Rattle.hesc_tool.specs.declared.faults.Fault.{Fault}
use Rattle.hesc_tool.specs.declared.faults.Fault.TheVariants.{NotUtf8, NoPage, NotForPlace, EmptyUnquoted}

-- an unquoted value that is empty
abbrev pub is_empty_unquoted : Place → List ℕ → Bool
is_empty_unquoted (UnquotedAttribute end) [] = true
is_empty_unquoted other text = false

-- a text between the marks of a place, if the encoder suits it and it may hold the text
abbrev pub enclosing : Encoder → Place → List ℕ → Result (List ℕ) Fault
enclosing encoder place text =
    if suits encoder place then (if is_empty_unquoted place text then Err EmptyUnquoted else Ok (enclosed encoder place text)) else Err NotForPlace

-- the page of three texts, if the first, which stands unquoted, is not empty
abbrev pub page_of : List ℕ → List ℕ → List ℕ → Result (List ℕ) Fault
page_of [] second third = Err EmptyUnquoted
page_of (b ∷ first) second third = Ok (page_text (b ∷ first) second third)

-- the lines of the page that was read, if there is one
abbrev pub lines_of : Option PageRead → Result (List ℕ) Fault
lines_of None = Err NoPage
lines_of (Some page) = Ok (page_lines page)

-- this text, unless something is wrong
abbrev pub unless_wrong : Option FormFault → List ℕ → Result (List ℕ) Fault
unless_wrong None text = Ok text
unless_wrong (Some fault) text = Err (form_refusal fault)

-- the form of these attributes and this script string, if nothing is wrong with the attributes
abbrev pub form_of : List Entry → List ℕ → Result (List ℕ) Fault
form_of attributes script = unless_wrong (first_fault attributes) (form_text attributes script)

-- the answer to words that name attributes
abbrev pub AnswersForm : List ℕ → List (List ℕ) → Result (List ℕ) Fault → Type 0
AnswersForm script words answer =
    (attributes : List Entry) × AreWordsOf attributes words × (form_of attributes script ≡ answer)

-- the lines of the form that was read, if there is one
abbrev pub form_lines_of : Option FormRead → Result (List ℕ) Fault
form_lines_of None = Err NoPage
form_lines_of (Some form) = Ok (form_lines form)

-- the answer to a text: first comes NotUtf8, exactly where the input is no text
abbrev pub AnswersText : List ℕ → Result (List ℕ) Fault → Result (List ℕ) Fault → Type 0
AnswersText input wanted (Err NotUtf8) = IsUtf8 input → ⊥
AnswersText input wanted answer = IsUtf8 input × (wanted ≡ answer)

-- what a command answers to an input
abbrev pub Answers : Command → List ℕ → Result (List ℕ) Fault → Type 0
Answers (Operation operation) input answer = AnswersText input (Ok (operation_text operation input)) answer
Answers (Lines kind) input answer = AnswersText input (Ok (body_encoding kind input)) answer
Answers (Enclose encoder place) input answer = AnswersText input (enclosing encoder place input) answer
Answers (Page first second third) input answer = page_of first.now second.now third.now ≡ answer
Answers ReadPage input answer = lines_of (page_reading input) ≡ answer
Answers (Form form) input answer = AnswersForm form.script.now (map (λ word. word.now) form.attributes.now) answer
Answers ReadForm input answer = form_lines_of (form_reading input) ≡ answer
