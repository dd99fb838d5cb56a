-- Names that stood before another one.
use Rattle.std.specs.Prelude.{ℕ, Bool, List, bytes_eq}
use Rattle.std.specs.Borrow.{Bor}
use Rattle.std.specs.List.{list_any}

-- whether a name is one of these
abbrev pub has : List (Bor (List ℕ)) → List ℕ → Bool
has names name = list_any (λ one. bytes_eq name one.now) names
