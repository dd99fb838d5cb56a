-- The changes that make the decided encoding of a text.
use Rattle.std.specs.Prelude.{ℕ, suc, ◌+◌, Bool, List, [], ◌∷◌, drop, length, if◌then◌else◌}
use Rattle.hesc_specs.specs.Text.Ascii.{backslash}
use Rattle.hesc_specs.specs.Text.Changes.{Change}
use Rattle.hesc_specs.specs.Bodies.Openings.{is_opening}
use Rattle.hesc_specs.specs.Bodies.Sessions.{is_partial}
use Rattle.hesc_specs.specs.declared.elements.Element.{Element}

-- of the bytes that stand at a place and after it: a `\` right after the `<` of each opening, and the partial end is dropped
abbrev pub decided_changes_of : Element → ℕ → List ℕ → List Change
decided_changes_of element at [] = []
decided_changes_of element at (b ∷ bytes) =
    if is_partial element (b ∷ bytes) then record { start = at; end = at + suc (length bytes); bytes = [] } ∷ []
    else if is_opening element (b ∷ bytes) then record { start = at + 1; end = at + 1; bytes = backslash ∷ [] } ∷ decided_changes_of element (at + 1) bytes
    else decided_changes_of element (at + 1) bytes

-- of a source from a place on
abbrev pub decided_changes : Element → List ℕ → ℕ → List Change
decided_changes element source from = decided_changes_of element from (drop from source)

-- what stands at a place of a text and after it is partial
abbrev pub partial_at : Element → List ℕ → ℕ → Bool
partial_at element text place = is_partial element (drop place text)
