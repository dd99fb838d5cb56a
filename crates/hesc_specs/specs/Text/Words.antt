-- What bytes begin with.
use Rattle.std.specs.Prelude.{ℕ, Bool, true, false, ◌&&◌, List, [], ◌∷◌, ◌==◌}
use Rattle.std.specs.Char.{to_ascii_lowercase}

-- the bytes begin with the word
abbrev pub begins : List ℕ → List ℕ → Bool
begins [] bytes = true
begins (w ∷ word) [] = false
begins (w ∷ word) (b ∷ bytes) = b == w && begins word bytes

-- the bytes begin with the word, which is in lower case, in any ASCII case, and what follows it passes the test
abbrev pub begins_in_any_case : List ℕ → (List ℕ → Bool) → List ℕ → Bool
begins_in_any_case [] follows bytes = follows bytes
begins_in_any_case (w ∷ word) follows [] = false
begins_in_any_case (w ∷ word) follows (b ∷ bytes) = to_ascii_lowercase b == w && begins_in_any_case word follows bytes

-- the bytes are a beginning of the word, which is in lower case, in any ASCII case
abbrev pub is_beginning_in_any_case : List ℕ → List ℕ → Bool
is_beginning_in_any_case word [] = true
is_beginning_in_any_case [] (b ∷ bytes) = false
is_beginning_in_any_case (w ∷ word) (b ∷ bytes) = to_ascii_lowercase b == w && is_beginning_in_any_case word bytes
