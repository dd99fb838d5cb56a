-- How many more bytes an output takes without growing, and what it is after bytes were appended to it.
use Rattle.std.specs.Prelude.{◌≡◌, ◌-◌, ℕ, List, ◌++◌, Result, String, Vec, if◌then◌else◌, is_ok, vec_len}
use Rattle.std.specs.String.{string_capacity, string_len}
use Rattle.std.specs.Vec.{vec_capacity}

abbrev pub string_room : {A : Type 0} → String A → ℕ
string_room output = string_capacity output - string_len output

abbrev pub vec_room : {A : Type 0} → Vec ℕ A → ℕ
vec_room output = vec_capacity output - vec_len output

-- the bytes were appended, or the output is as it was
abbrev pub Appended : {T E : Type 0} → List ℕ → List ℕ → List ℕ → Result T E → Type 0
Appended old new bytes result = new ≡ (if is_ok result then old ++ bytes else old)
