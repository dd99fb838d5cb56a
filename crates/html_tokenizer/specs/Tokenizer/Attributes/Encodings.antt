-- The encoding that the `content` of a `meta` names.
-- HTML Standard, 2.5.3 Extracting character encodings from meta elements, where `charset=` and a label of
-- UTF-8 stand as they mostly do; Encoding Standard, 4.2 Names and labels.
use Rattle.std.specs.Prelude.{ℕ, Bool, true, false, ◌||◌, List, [], ◌∷◌, ◌==◌, Option, Some, None, if◌then◌else◌, bytes_eq, codes, drop, length}
use Rattle.std.specs.Option.{option_or}
use Rattle.hesc_specs.specs.Text.Ascii.{semicolon, space}
use Rattle.hesc_specs.specs.Text.Words.{begins}

abbrev pub is_utf_8 : List ℕ → Bool
is_utf_8 label = bytes_eq label (codes "utf-8") || bytes_eq label (codes "utf8")

-- the bytes after the word, if it stands first
abbrev pub past : List ℕ → List ℕ → Option (List ℕ)
past word bytes = if begins word bytes then Some (drop (length word) bytes) else None

-- the bytes after the first `charset`
abbrev pub after_charset : List ℕ → Option (List ℕ)
after_charset [] = None
after_charset (b ∷ bytes) = option_or (past (codes "charset") (b ∷ bytes)) (after_charset bytes)

abbrev pub ends_label : List ℕ → Bool
ends_label [] = true
ends_label (b ∷ bytes) = b == space || b == semicolon

abbrev pub is_over : Option (List ℕ) → Bool
is_over None = false
is_over (Some rest) = ends_label rest

-- the word stands first, and then a space, a `;` or nothing
abbrev pub has_first : List ℕ → List ℕ → Bool
has_first word bytes = is_over (past word bytes)

abbrev pub is_read_as_utf_8 : Option (List ℕ) → Bool
is_read_as_utf_8 None = true
is_read_as_utf_8 (Some rest) = has_first (codes "=utf-8") rest || has_first (codes "=utf8") rest

-- the value, in small letters, names no encoding, or UTF-8
abbrev pub names_no_other : List ℕ → Bool
names_no_other value = is_read_as_utf_8 (after_charset value)
