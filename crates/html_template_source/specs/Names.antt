-- The names of slots, each once, and their numbers.
use Rattle.std.specs.Prelude.{◌≡◌, ℕ, suc, ◌<◌, List, [], ◌∷◌, Option, Some, None, bytes_eq, if◌then◌else◌, length, map, slice_index_or}
use Rattle.std.specs.BTreeMap.{BTreeMap, get_by}
use Rattle.std.specs.Borrow.{Bor}
use Rattle.std.specs.Cmp.Lexicographic.{slice_cmp}
use Rattle.std.specs.Option.{option_map}
use Rattle.std.specs.Ordering.{nat_cmp}
use Rattle.html_template_source.specs.Bindings.{is_among}

-- the name of this number
abbrev pub name_at : List (List ℕ) → ℕ → List ℕ
name_at names number = slice_index_or names number []

-- the number of this name
abbrev pub number_of : List ℕ → List (List ℕ) → Option ℕ
number_of name [] = None
number_of name (first ∷ names) = if bytes_eq name first then Some 0 else option_map suc (number_of name names)

-- no name stands twice
abbrev pub AreSingle : List (List ℕ) → Type 0
AreSingle names = (k : ℕ) → k < length names → number_of (name_at names k) names ≡ Some k

-- each number is below this one
abbrev pub AreBelow : ℕ → List ℕ → Type 0
AreBelow count numbers = (k : ℕ) → k < length numbers → slice_index_or numbers k 0 < count

-- each name is that of a slot
abbrev pub AreUsed : List (List ℕ) → List ℕ → Type 0
AreUsed names numbers = (name : List ℕ) → is_among name names ≡ is_among name (map (name_at names) numbers)

-- the map has the number of each name
abbrev pub IsIndexOf : BTreeMap (Bor (List ℕ)) ℕ → List (List ℕ) → Type 0
IsIndexOf found names = (name : List ℕ) → get_by (λ k. slice_cmp nat_cmp name k.now) found ≡ number_of name names
