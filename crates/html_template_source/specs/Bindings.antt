-- Texts that are bound to names.
use Rattle.std.specs.Prelude.{◌≡◌, ⊤, ℕ, Bool, List, [], ◌∷◌, Option, Some, None, Result, Ok, Err, bytes_eq, if◌then◌else◌, map, not}
use Rattle.std.specs.Borrow.{Bor}
use Rattle.std.specs.List.{list_any}
use Rattle.std.specs.Option.{unwrap_or, is_some, option_map, option_or}
use Rattle.html_template.specs.FirstFault.{first_fault}
use Rattle.html_template.specs.FillFaults.{fill_fault}
use Rattle.html_template.specs.Templates.{Chunk}
use Rattle.html_template.specs.declared.faults.FillFault.{FillFault}
use Rattle.html_template.specs.declared.faults.FillFault.TheVariants as fill
use Rattle.html_template.specs.declared.faults.WriteFault.{WriteFault}
use Rattle.html_template.specs.declared.faults.WriteFault.TheVariants.{Texts, Writer}
use Rattle.html_template_source.specs.declared.faults.BindFault.{BindFault}
use Rattle.html_template_source.specs.declared.faults.BindFault.TheVariants.{Unknown, Doubled, Missing, Fill, Memory}

-- a name, and the text that is bound to it
pub record Binding : Type 0 where
  pub name : List ℕ
  pub text : List ℕ

abbrev pub bindings_of : List (Bor (List ℕ) × Bor (List ℕ)) → List Binding
bindings_of bindings = map (λ b. record { name = b.0.now; text = b.1.now }) bindings

-- the text that is bound to a name
abbrev pub bound : List Binding → List ℕ → Option (List ℕ)
bound [] name = None
bound (b ∷ bindings) name = if bytes_eq b.name name then Some b.text else bound bindings name

abbrev pub is_among : List ℕ → List (List ℕ) → Bool
is_among name names = list_any (bytes_eq name) names

-- the text for a slot of this name
abbrev pub text_of : List Binding → List ℕ → List ℕ
text_of bindings name = unwrap_or (bound bindings name) []

-- ---- the faults of bindings

-- why a binding is refused: its name is no slot's, or that of a later one, too
pub data BindingFault : Type 0 where
  IsUnknown : BindingFault
  IsDoubled : BindingFault

-- and how it is told of the binding of this number
abbrev pub binding_told : ℕ → BindingFault → BindFault
binding_told number IsUnknown = Unknown number
binding_told number IsDoubled = Doubled number

abbrev pub binding_fault : List (List ℕ) → Binding → List Binding → Option BindingFault
binding_fault names b later =
    if not (is_among b.name names) then Some IsUnknown
    else (if is_some (bound later b.name) then Some IsDoubled else None)

-- the fault of each
abbrev pub binding_faults : List (List ℕ) → List Binding → List (Option BindingFault)
binding_faults names [] = []
binding_faults names (b ∷ bindings) = binding_fault names b bindings ∷ binding_faults names bindings

-- ---- the faults of slots

-- the name of a slot has no text
abbrev pub slot_told : ℕ → Unit {0} → BindFault
slot_told number missing = Missing number

abbrev pub slot_fault : List Binding → List ℕ → Option (Unit {0})
slot_fault bindings name = if is_some (bound bindings name) then None else Some tt

abbrev pub slot_faults : List Binding → List (List ℕ) → List (Option (Unit {0}))
slot_faults bindings names = map (slot_fault bindings) names

-- ---- the first fault

-- of the bindings, and then of the slots
abbrev pub early_fault : List Binding → List (List ℕ) → Option BindFault
early_fault bindings names =
    option_or (first_fault binding_told (binding_faults names bindings)) (first_fault slot_told (slot_faults bindings names))

-- and then of the texts
abbrev pub bind_fault : List Binding → List (List ℕ) → List Chunk → Option BindFault
bind_fault bindings names chunks = option_or (early_fault bindings names) (option_map Fill (fill_fault chunks (map (text_of bindings) names)))

-- a fault of a binding or of a slot
abbrev pub IsEarly : BindFault → Type 0
IsEarly (Unknown number) = ⊤
IsEarly (Doubled number) = ⊤
IsEarly (Missing number) = ⊤
IsEarly other = ⊥

-- ---- the answer

-- the first fault is answered, and where there is none no other one but Memory
abbrev pub AnswersEarly : {T : Type 0} → Option BindFault → Result T BindFault → Type 0
AnswersEarly fault (Ok done) = fault ≡ None
AnswersEarly fault (Err Memory) = fault ≡ None
AnswersEarly fault (Err other) = fault ≡ Some other

-- the same; before a fault of the texts memory may run out
abbrev pub AnswersBind : {T : Type 0} → List Binding → List (List ℕ) → List Chunk → Result T BindFault → Type 0
AnswersBind bindings names chunks (Ok done) = bind_fault bindings names chunks ≡ None
AnswersBind bindings names chunks (Err Memory) = early_fault bindings names ≡ None
AnswersBind bindings names chunks (Err other) = bind_fault bindings names chunks ≡ Some other

-- the same when a page is written to a writer
abbrev pub AnswersBinding : {T : Type 0} → List Binding → List (List ℕ) → List Chunk → Result T (WriteFault BindFault) → Type 0
AnswersBinding bindings names chunks (Ok done) = bind_fault bindings names chunks ≡ None
AnswersBinding bindings names chunks (Err (Texts Memory)) = early_fault bindings names ≡ None
AnswersBinding bindings names chunks (Err (Texts other)) = bind_fault bindings names chunks ≡ Some other
AnswersBinding bindings names chunks (Err (Writer refusal)) = bind_fault bindings names chunks ≡ None

-- a fault of texts, as one of bound texts
abbrev pub of_fill : FillFault → BindFault
of_fill fill.Memory = Memory
of_fill other = Fill other
