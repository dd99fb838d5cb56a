-- Beginnings of bytes, and what was taken of a piece.
use Rattle.std.specs.Prelude.{◌≡◌, ℕ, List, ◌++◌, Option}
use Rattle.std.specs.Io.KnownBytes.{Appends}

-- a is a beginning of b
abbrev pub IsBeginning : List ℕ → List ℕ → Type 0
IsBeginning a b = (c : List ℕ) × (a ++ c ≡ b)

-- new is old, and then a beginning of piece
abbrev pub TookBeginning : List ℕ → List ℕ → List ℕ → Type 0
TookBeginning old new piece = (a : List ℕ) × ((new ≡ old ++ a) × IsBeginning a piece)

-- a beginning of the text went out, where the writer tells its bytes
abbrev pub AppendsBeginning : Option (List ℕ) → Option (List ℕ) → List ℕ → Type 0
AppendsBeginning writer writer' text = (beginning : List ℕ) × IsBeginning beginning text × Appends writer writer' beginning
