-- Names: `.`, which is the innermost value, or words with dots between them. Where a dot stands before them, the first word is empty.
use Rattle.std.specs.Prelude.{ℕ, List, [], ◌∷◌, ◌++◌, ◌==◌, bytes_eq, if◌then◌else◌}
use Rattle.html_view.specs.Nodes.{Words}

abbrev pub dot : ℕ
dot = 46

-- the words behind these bytes of the first one
abbrev pub words_behind : List ℕ → List ℕ → Words
words_behind word [] = word ∷ []
words_behind word (b ∷ bytes) = if b == dot then word ∷ words_behind [] bytes else words_behind (word ++ b ∷ []) bytes

abbrev pub words_of : List ℕ → Words
words_of name = if bytes_eq name (dot ∷ []) then [] else words_behind [] name
