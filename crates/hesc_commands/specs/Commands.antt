-- The commands, and the words that name each.
use Rattle.std.specs.Prelude.{◌≡◌, ⊤, ℕ, List, [], ◌∷◌, codes, map}
use Rattle.hesc_commands.specs.Names.{encoder_name, lines_name, operation_name, place_name}
use Rattle.hesc_commands.specs.declared.commands.Command.{Command}
use Rattle.hesc_commands.specs.declared.commands.Command.TheVariants.{Operation, Lines, Enclose, Page, ReadPage, Form, ReadForm}

-- the words that name a command
abbrev pub words_of : Command → List (List ℕ)
words_of (Operation operation) = operation_name operation ∷ []
words_of (Lines kind) = lines_name kind ∷ []
words_of (Enclose encoder place) = codes "enclose" ∷ (encoder_name encoder ∷ (place_name place ∷ []))
words_of (Page first second third) = codes "page" ∷ (first.now ∷ (second.now ∷ (third.now ∷ [])))
words_of ReadPage = codes "read-page" ∷ []
words_of (Form form) = codes "form" ∷ (form.script.now ∷ map (λ word. word.now) form.attributes.now)
words_of ReadForm = codes "read-form" ∷ []

-- the words name some command
abbrev pub NamesCommand : List (List ℕ) → Type 0
NamesCommand words = (command : Command) × (words_of command ≡ words)

-- the words name no command
abbrev pub NamesNoCommand : List (List ℕ) → Type 0
NamesNoCommand words = (command : Command) → words_of command ≡ words → ⊥

-- the command has a fixed number of words
abbrev pub IsOfFew : Command → Type 0
IsOfFew (Form form) = ⊥
IsOfFew other = ⊤

-- the words name no command of a fixed number of words
abbrev pub NamesNoneOfFew : List (List ℕ) → Type 0
NamesNoneOfFew words = (command : Command) → IsOfFew command → words_of command ≡ words → ⊥

-- the command reads an input
abbrev pub ReadsInput : Command → Type 0
ReadsInput (Page first second third) = ⊥
ReadsInput (Form form) = ⊥
ReadsInput other = ⊤
