-- The first of a list of optional faults, and its position.
use Rattle.std.specs.Prelude.{◌≡◌, ⊤, ℕ, zero, suc, ◌+◌, List, [], ◌∷◌, Option, Some, None}

-- the first fault, told with its position, where the first element has this one
abbrev pub first_from : {F G : Type 0} → (ℕ → F → G) → ℕ → List (Option F) → Option G
first_from tell position [] = None
first_from tell position (None ∷ faults) = first_from tell (position + 1) faults
first_from tell position (Some fault ∷ faults) = Some (tell position fault)

abbrev pub first_fault : {F G : Type 0} → (ℕ → F → G) → List (Option F) → Option G
first_fault tell faults = first_from tell 0 faults

-- at this position is this fault, and before it is none
abbrev pub IsFirst : {F : Type 0} → ℕ → F → List (Option F) → Type 0
IsFirst position fault [] = ⊥
IsFirst zero fault (here ∷ faults) = here ≡ Some fault
IsFirst (suc position) fault (here ∷ faults) = (here ≡ None) × IsFirst position fault faults

-- there is none
abbrev pub AreNone : {F : Type 0} → List (Option F) → Type 0
AreNone [] = ⊤
AreNone (here ∷ faults) = (here ≡ None) × AreNone faults
