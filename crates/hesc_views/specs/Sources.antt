-- The texts of files, where the bytes of these are known.
use Rattle.std.specs.Prelude.{◌≡◌, ⊤, ℕ, List, [], ◌∷◌, Option, Some, None}

-- by the path of each
abbrev pub Files : Type 0
Files = List ℕ → Option (List ℕ)

abbrev pub IsTextOf : Option (List ℕ) → List ℕ → Type 0
IsTextOf None text = ⊤
IsTextOf (Some bytes) text = text ≡ bytes

-- one after the other, the files of these paths
abbrev pub AreTextsOf : Files → List (List ℕ) → List (List ℕ) → Type 0
AreTextsOf files [] [] = ⊤
AreTextsOf files (path ∷ paths) (text ∷ texts) = IsTextOf (files path) text × AreTextsOf files paths texts
AreTextsOf files paths texts = ⊥
