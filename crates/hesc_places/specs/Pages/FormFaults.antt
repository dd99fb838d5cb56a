-- What keeps attributes from standing in a form.
use Rattle.std.specs.Prelude.{◌≡◌, ℕ, ◌+◌, Bool, true, false, not, ◌&&◌, if◌then◌else◌, List, [], ◌∷◌, ◌++◌, Option, Some, None, Result, Ok, Err, bytes_eq}
use Rattle.std.specs.List.{list_any}
use Rattle.std.specs.Option.{option_or}
use Rattle.hesc_places.specs.declared.markup.types.FormFault.{FormFault}
use Rattle.hesc_places.specs.declared.markup.types.FormFault.TheVariants.{BadName, EmptyUnquoted, Memory}
use Rattle.hesc_places.specs.declared.markup.types.Quoting.{Quoting}
use Rattle.hesc_places.specs.declared.markup.types.Quoting.TheVariants.{Unquoted}
use Rattle.hesc_places.specs.Pages.AttributeReadings.{Entry}
use Rattle.hesc_places.specs.Pages.FormTexts.{is_name}

-- an unquoted value that is empty
abbrev pub is_unfilled : Quoting → List ℕ → Bool
is_unfilled Unquoted [] = true
is_unfilled other value = false

-- what is wrong with an attribute at a place, whose name stood before or not: its name comes first
abbrev pub fault_where : Bool → ℕ → Entry → Option FormFault
fault_where stood place a =
    if is_name a.name && not stood
    then (if is_unfilled a.quoting a.value then Some (EmptyUnquoted place) else None)
    else Some (BadName place)

-- what is wrong with an attribute at a place, after others of these names
abbrev pub attribute_fault : List (List ℕ) → ℕ → Entry → Option FormFault
attribute_fault earlier place a = fault_where (list_any (bytes_eq a.name) earlier) place a

-- what is wrong first from a place on, after others of these names
abbrev pub fault_from : List (List ℕ) → ℕ → List Entry → Option FormFault
fault_from earlier place [] = None
fault_from earlier place (a ∷ others) =
    option_or (attribute_fault earlier place a) (fault_from (earlier ++ a.name ∷ []) (place + 1) others)

-- the first fault, attribute by attribute
abbrev pub first_fault : List Entry → Option FormFault
first_fault attributes = fault_from [] 0 attributes

-- the first fault is answered, and where there is none no other one but Memory
abbrev pub AnswersFormFault : {T : Type 0} → List Entry → Result T FormFault → Type 0
AnswersFormFault attributes (Ok answer) = first_fault attributes ≡ None
AnswersFormFault attributes (Err Memory) = first_fault attributes ≡ None
AnswersFormFault attributes (Err fault) = first_fault attributes ≡ Some fault
