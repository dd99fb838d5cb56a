-- The changes of an operation: the parts of its source that it replaces, and by what.
use Rattle.std.specs.Prelude.{ℕ, ◌+◌, List, [], ◌∷◌, ◌++◌, drop, slice_range, if◌then◌else◌}
use Rattle.hesc_specs.specs.Text.Classes.{in_class}
use Rattle.hesc_specs.specs.Html.{reference_to}
use Rattle.hesc_specs.specs.declared.classes.Class.{Class}

-- the bytes of the source from start to end, and the bytes that stand for them
pub record Change : Type 0 where
  pub start : ℕ
  pub end : ℕ
  pub bytes : List ℕ

-- the source from a place on, with the changes made
abbrev pub applied : List ℕ → ℕ → List Change → List ℕ
applied source from [] = drop from source
applied source from (c ∷ cs) = slice_range source from c.start ++ (c.bytes ++ applied source c.end cs)

-- an HTML encoder's changes of the bytes that stand at a place and after it: each byte whose image is not itself
abbrev pub html_changes_of : Class → ℕ → List ℕ → List Change
html_changes_of class at [] = []
html_changes_of class at (b ∷ bytes) =
    if in_class class b then record { start = at; end = at + 1; bytes = reference_to b } ∷ html_changes_of class (at + 1) bytes
    else html_changes_of class (at + 1) bytes

-- an HTML encoder's changes of a source from a place on
abbrev pub html_changes : Class → List ℕ → ℕ → List Change
html_changes class source from = html_changes_of class from (drop from source)
