-- A text as a string of JSON in a script. RFC 8259, 7 Strings: between two `"` the crate `json` writes its bytes so (`escape`), and each
-- `<` of that is written as in other JSON.
use Rattle.std.specs.Prelude.{ℕ, Bool, List}
use Rattle.std.specs.List.{flat_map}
use Rattle.hesc_specs.specs.Text.Changes.{Change}
use Rattle.hesc_specs.specs.Text.Classes.{in_class}
use Rattle.hesc_specs.specs.declared.classes.Class.TheVariants.{StyleDoubleQuoted}
use Rattle.json.specs.Print.{escape_byte}
use Rattle.html_json.specs.Bytes.{byte_changes, byte_changes_at}
use Rattle.html_json.specs.Encoding.{json_encoding}

-- what is written for a byte
abbrev pub content_image : ℕ → List ℕ
content_image b = json_encoding (escape_byte b)

-- what is written between the quote marks
abbrev pub content_encoding : List ℕ → List ℕ
content_encoding text = flat_map content_image text

-- another text is written for the control characters, `"`, `\` and `<`
abbrev pub is_escaped : ℕ → Bool
is_escaped b = in_class StyleDoubleQuoted b

-- the changes of a source from a place on
abbrev pub content_changes : List ℕ → ℕ → List Change
content_changes source from = byte_changes is_escaped content_image source from

-- a change begins at a place of a text
abbrev pub content_changes_at : List ℕ → ℕ → Bool
content_changes_at text place = byte_changes_at is_escaped text place
