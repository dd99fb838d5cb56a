-- How long a rule's text is, as far as that is known.
use Rattle.std.specs.Prelude.{◌≡◌, ◌≤◌, ⊤, ℕ, List, [], length}
use Rattle.hesc_engine.specs.declared.length.Length.{Length}
use Rattle.hesc_engine.specs.declared.length.Length.TheVariants.{Exactly, AtMost, Unknown}

-- an upper bound of no bytes is 0
abbrev pub IsLengthOf : List ℕ → Length → Type 0
IsLengthOf bytes (Exactly count) = count ≡ length bytes
IsLengthOf bytes (AtMost bound) = (length bytes ≤ bound) × (bytes ≡ [] → bound ≡ 0)
IsLengthOf bytes Unknown = ⊤
