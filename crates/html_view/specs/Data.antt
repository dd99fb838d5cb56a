-- The data of a page, and what a name means in it.
use Rattle.std.specs.Prelude.{ℕ, Bool, true, false, List, [], ◌∷◌, Option, Some, None, bytes_eq, if◌then◌else◌}
use Rattle.std.specs.Option.{option_and_then}
use Rattle.html_template.specs.Structure.{IsWhole}
use Rattle.html_view.specs.Nodes.{Words}
use Rattle.html_view.specs.declared.node.Times.{Times}
use Rattle.html_view.specs.declared.node.Times.TheVariants.{Each, Given, Once, Whether}

mutual
  -- nothing, a text, a number as its text, a flag, a fragment, a list, or named values
  pub data Datum : Type 0 where
    Nothing : Datum
    Text : List ℕ → Datum
    Number : List ℕ → Datum
    Flag : Bool → Datum
    Fragment : (markup : List ℕ) → IsWhole markup → Datum
    Items : ItemList → Datum
    Record : Fields → Datum

  pub data ItemList : Type 0 where
    no_items : ItemList
    item : Datum → ItemList → ItemList

  pub data Fields : Type 0 where
    bare : Fields
    field : List ℕ → Datum → Fields → Fields

-- what is around, the innermost first
abbrev pub Stack : Type 0
Stack = List Datum

-- ---- names

-- the first value of this name
abbrev pub field_of : List ℕ → Fields → Option Datum
field_of word bare = None
field_of word (field name value fields) = if bytes_eq name word then Some value else field_of word fields

abbrev pub member_of : List ℕ → Datum → Option Datum
member_of word (Record fields) = field_of word fields
member_of word other = None

-- the first word is looked up from inside out, and each other one in what was found
abbrev pub first_of : Option Datum → Option Datum → Option Datum
first_of (Some found) other = Some found
first_of None other = other

abbrev pub around : List ℕ → Stack → Option Datum
around word [] = None
around word (value ∷ stack) = first_of (member_of word value) (around word stack)

abbrev pub within : Words → Datum → Option Datum
within [] value = Some value
within (word ∷ words) value = option_and_then (λ found. within words found) (member_of word value)

abbrev pub innermost : Stack → Option Datum
innermost [] = None
innermost (value ∷ stack) = Some value

-- an empty word before others is the innermost value: what `.name` means is a member of it
abbrev pub first_value : Words → List ℕ → Stack → Option Datum
first_value [] word stack = around word stack
first_value (next ∷ words) [] stack = innermost stack
first_value (next ∷ words) (b ∷ word) stack = around (b ∷ word) stack

abbrev pub look_up : Words → Stack → Option Datum
look_up [] stack = innermost stack
look_up (word ∷ words) stack = option_and_then (within words) (first_value words word stack)

-- ---- sections

abbrev pub is_filled : List ℕ → Bool
is_filled [] = false
is_filled (b ∷ text) = true

-- a list stands once for each item, with the item around
abbrev pub item_stacks : ItemList → Stack → List Stack
item_stacks no_items stack = []
item_stacks (item value items) stack = (value ∷ stack) ∷ item_stacks items stack

abbrev pub has_items : ItemList → Bool
has_items no_items = false
has_items (item value items) = true

abbrev pub once : Bool → Stack → List Stack
once true stack = stack ∷ []
once false stack = []

-- a condition only asks a list whether it is empty
abbrev pub list_stacks : Times → ItemList → Stack → List Stack
list_stacks Each items stack = item_stacks items stack
list_stacks Once items stack = item_stacks items stack
list_stacks other items stack = once (has_items items) stack

-- named values, a text, a number and a fragment are around in the body
abbrev pub inside : Times → Datum → Stack → Stack
inside Whether value stack = stack
inside other value stack = value ∷ stack

-- never where its name is missing, or means nothing, `false` or an empty text, fragment or list
abbrev pub filled_stacks : Times → Option Datum → Stack → List Stack
filled_stacks times None stack = []
filled_stacks times (Some Nothing) stack = []
filled_stacks times (Some (Text text)) stack = once (is_filled text) (inside times (Text text) stack)
filled_stacks times (Some (Number text)) stack = once (is_filled text) (inside times (Number text) stack)
filled_stacks times (Some (Flag flag)) stack = once flag stack
filled_stacks times (Some (Fragment markup whole)) stack = once (is_filled markup) (inside times (Fragment markup whole) stack)
filled_stacks times (Some (Items items)) stack = list_stacks times items stack
filled_stacks times (Some (Record fields)) stack = inside times (Record fields) stack ∷ []

abbrev pub is_nothing : Datum → Bool
is_nothing Nothing = true
is_nothing other = false

-- never where its name is missing, or means nothing, and else once with the value around
abbrev pub given_stacks : Option Datum → Stack → List Stack
given_stacks None stack = []
given_stacks (Some value) stack = if is_nothing value then [] else (value ∷ stack) ∷ []

-- what is around in the body, each time that it stands
abbrev pub stacks : Times → Option Datum → Stack → List Stack
stacks Given value stack = given_stacks value stack
stacks other value stack = filled_stacks other value stack
