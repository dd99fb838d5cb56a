-- Where an encoder replaces something, found by its bytes.
use Rattle.std.specs.Prelude.{ℕ, Bool, false, ◌&&◌, ◌||◌, not, ◌==◌, List, [], ◌∷◌, drop}
use Rattle.hesc_specs.specs.Text.Classes.{in_class, separator_lead}
use Rattle.hesc_specs.specs.declared.classes.Class.{Class}

-- the two bytes that make U+2028 or U+2029 after their first byte
abbrev pub completes_separator : List ℕ → Bool
completes_separator [] = false
completes_separator (b ∷ []) = false
completes_separator (b ∷ c ∷ bytes) = b == 0x80 && (c == 0xA8 || c == 0xA9)

-- what the encoder of the class replaces begins at the first byte: a byte of the class, and if it is the first of the separators, one of them
abbrev pub begins_escaped : Class → List ℕ → Bool
begins_escaped class [] = false
begins_escaped class (b ∷ bytes) = in_class class b && (not (b == separator_lead) || completes_separator bytes)

-- what the encoder of the class replaces begins at a place of a text
abbrev pub escapes_at : Class → List ℕ → ℕ → Bool
escapes_at class text place = begins_escaped class (drop place text)
