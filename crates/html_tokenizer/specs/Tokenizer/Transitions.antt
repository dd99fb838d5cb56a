-- What one byte does.
use Rattle.std.specs.Prelude.{ℕ, List, [], ◌∷◌, ◌++◌}
use Rattle.html_tokenizer.specs.declared.slot_place.SlotPlace.{SlotPlace}
use Rattle.html_tokenizer.specs.declared.elements.Content.{Content}
use Rattle.html_tokenizer.specs.Tokenizer.Actions.{Action, read_byte}
use Rattle.html_tokenizer.specs.Tokenizer.Attributes.{value_byte_read}
use Rattle.html_tokenizer.specs.Tokenizer.States.{State, In, Attribute, Tokenizer, at, at_value, refused}

-- the tokenizer after a byte, and its actions at it
pub record Transition : Type 0 where
  pub next : Tokenizer
  pub actions : List Action

abbrev pub goes : State → Content → List Action → Transition
goes state content actions = record { next = at state content; actions = actions }

abbrev pub moves : Tokenizer → List Action → Transition
moves next actions = record { next = next; actions = actions }

abbrev pub refuses : Transition
refuses = moves refused []

-- actions before those at a byte that is consumed again
abbrev pub reconsumes : List Action → Transition → Transition
reconsumes actions t = moves t.next (actions ++ t.actions)

-- a byte of a value as it stands
abbrev pub keeps : SlotPlace → Content → Attribute → ℕ → Transition
keeps p content attribute b =
    moves (at_value (In p) content (value_byte_read attribute b)) (read_byte p b ∷ [])
