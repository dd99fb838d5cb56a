-- JSON as the content of a script: the text that the encoder writes, and its changes.
-- RFC 8259, 7 Strings: outside of strings JSON has no `<`, and in a string `\u003C` is that character. HTML Standard, 4.12.1.3
-- Restrictions for contents of script elements: without a `<` no text begins a tag or a comment there.
use Rattle.std.specs.Prelude.{ℕ, Bool, ◌==◌, List, [], ◌∷◌, if◌then◌else◌, codes}
use Rattle.std.specs.List.{flat_map}
use Rattle.hesc_specs.specs.Text.Ascii.{less_than}
use Rattle.hesc_specs.specs.Text.Changes.{Change}
use Rattle.html_json.specs.Bytes.{byte_changes, byte_changes_at}

-- the escape of `<` in a string
abbrev pub less_than_escape : List ℕ
less_than_escape = codes "\\u003C"

abbrev pub is_less : ℕ → Bool
is_less b = b == less_than

-- what the encoder writes for a byte
abbrev pub json_image : ℕ → List ℕ
json_image b = if is_less b then less_than_escape else b ∷ []

abbrev pub json_encoding : List ℕ → List ℕ
json_encoding text = flat_map json_image text

-- the changes of a source from a place on: each `<`
abbrev pub json_changes : List ℕ → ℕ → List Change
json_changes source from = byte_changes is_less json_image source from

-- a change begins at a place of a text
abbrev pub changes_at : List ℕ → ℕ → Bool
changes_at text place = byte_changes_at is_less text place
