-- The changes of decoding: the references that have a value.
use Rattle.std.specs.Prelude.{ℕ, ◌+◌, Bool, ◌&&◌, List, [], ◌∷◌, drop, length, slice_index, Option, Some, None, is_some, ◌==◌, if◌then◌else◌}
use Rattle.hesc_specs.specs.Text.Ascii.{ampersand}
use Rattle.hesc_specs.specs.Text.Changes.{Change}
use Rattle.hesc_specs.specs.References.Rows.{Row}
use Rattle.hesc_specs.specs.References.Decoding.{body_of, reference_value}

-- the change of the reference of a body and a value that begins at a place, if there are both, and the later changes
abbrev pub with_reference : ℕ → Option (List ℕ) → Option (List ℕ) → List Change → List Change
with_reference at None value later = later
with_reference at (Some body) None later = later
with_reference at (Some body) (Some value) later = record { start = at; end = at + 2 + length body; bytes = value } ∷ later

-- the changes of the bytes that stand at a place and after it: each `&` is judged by itself
abbrev pub reference_changes_of : List Row → ℕ → List ℕ → List Change
reference_changes_of rows at [] = []
reference_changes_of rows at (b ∷ bytes) =
    if b == ampersand then with_reference at (body_of bytes) (reference_value rows bytes) (reference_changes_of rows (at + 1) bytes)
    else reference_changes_of rows (at + 1) bytes

-- the changes of a source from a place on
abbrev pub reference_changes : List Row → List ℕ → ℕ → List Change
reference_changes rows source from = reference_changes_of rows from (drop from source)

-- a reference that has a value begins at a place
abbrev pub refers_at : List Row → List ℕ → ℕ → Bool
refers_at rows source place = slice_index source place == ampersand && is_some (reference_value rows (drop (place + 1) source))
