-- The places of bindings, and the faults that they tell.
use Rattle.std.specs.Prelude.{◌≡◌, ℕ, ◌<◌, Bool, false, List, [], Option, Some, None, if◌then◌else◌, length, map, nat_lt, slice_get, slice_set}
use Rattle.std.specs.Borrow.{Bor}
use Rattle.std.specs.Option.{option_and_then, option_map, unwrap_or}
use Rattle.html_template_source.specs.Bindings.{Binding, BindingFault, IsDoubled, IsUnknown, bound}
use Rattle.html_template_source.specs.Names.{name_at}
use Rattle.html_template_source.specs.declared.places.Places.{Places}
use Rattle.html_template_source.specs.declared.places.Places.TheVariants.{Block, InOrder, Many}

-- the text of the binding at this place
abbrev pub text_at : List Binding → ℕ → Option (List ℕ)
text_at bindings place = option_map (λ (b : Binding). b.text) (slice_get bindings place)

-- the place of the binding of the name of this number: without a list of places, the number
abbrev pub place_of : Option (Bor (List ℕ)) → ℕ → Option ℕ
place_of None number = Some number
place_of (Some places) number = slice_get places.now number

abbrev pub text_of_number : Option (Bor (List ℕ)) → List Binding → ℕ → Option (List ℕ)
text_of_number places bindings number = option_and_then (text_at bindings) (place_of places number)

-- the binding of each name stands at its place
abbrev pub ArePlaced : Option (Bor (List ℕ)) → List Binding → List (List ℕ) → Type 0
ArePlaced places bindings names =
    (number : ℕ) → number < length names → text_of_number places bindings number ≡ bound bindings (name_at names number)

-- the same of places as they are kept
abbrev pub AreListed : Option (List ℕ) → List Binding → List (List ℕ) → Type 0
AreListed places bindings names =
    (found : Option (Bor (List ℕ))) → option_map (λ (p : Bor (List ℕ)). p.now) found ≡ places → ArePlaced found bindings names

abbrev pub listed : {A : Type 0} → Places A → Option (List ℕ)
listed InOrder = None
listed (Block block) = Some block
listed (Many places) = Some places.items

-- where a binding of the name of this number is put down
abbrev pub places_after : ℕ → Option ℕ → List ℕ → List ℕ
places_after place None places = places
places_after place (Some number) places = slice_set places number place

-- a place is that of one of so many bindings
abbrev pub is_taken : ℕ → Option ℕ → Bool
is_taken count None = false
is_taken count (Some place) = nat_lt place count

-- the fault of a binding of the name of this number, where those behind it are put down
abbrev pub placing_fault : ℕ → Option ℕ → List ℕ → Option BindingFault
placing_fault count None places = Some IsUnknown
placing_fault count (Some number) places = if is_taken count (slice_get places number) then Some IsDoubled else None

-- the faults of slots whose names have these numbers, where all bindings are put down
abbrev pub unplaced : ℕ → List ℕ → List ℕ → List (Option (Unit {0}))
unplaced count places numbers = map (λ number. if is_taken count (slice_get places number) then None else Some tt) numbers

-- the texts of names of these numbers
abbrev pub texts_by : Option (Bor (List ℕ)) → List Binding → List ℕ → List (List ℕ)
texts_by places bindings numbers = map (λ number. unwrap_or (text_of_number places bindings number) []) numbers
