-- Changes of single bytes: where a test holds of a byte, its image is written for it.
use Rattle.std.specs.Prelude.{ℕ, Bool, false, ◌+◌, List, [], ◌∷◌, drop, if◌then◌else◌}
use Rattle.hesc_specs.specs.Text.Changes.{Change}

-- the changes of the bytes that stand at a place and after it
abbrev pub byte_changes_of : (ℕ → Bool) → (ℕ → List ℕ) → ℕ → List ℕ → List Change
byte_changes_of is_changed image at [] = []
byte_changes_of is_changed image at (b ∷ bytes) =
    if is_changed b then record { start = at; end = at + 1; bytes = image b } ∷ byte_changes_of is_changed image (at + 1) bytes
    else byte_changes_of is_changed image (at + 1) bytes

-- the changes of a source from a place on
abbrev pub byte_changes : (ℕ → Bool) → (ℕ → List ℕ) → List ℕ → ℕ → List Change
byte_changes is_changed image source from = byte_changes_of is_changed image from (drop from source)

abbrev pub begins_change : (ℕ → Bool) → List ℕ → Bool
begins_change is_changed [] = false
begins_change is_changed (b ∷ bytes) = is_changed b

-- a change begins at a place of a text
abbrev pub byte_changes_at : (ℕ → Bool) → List ℕ → ℕ → Bool
byte_changes_at is_changed text place = begins_change is_changed (drop place text)
