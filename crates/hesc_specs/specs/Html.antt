-- The HTML maps: what each HTML encoder writes for a byte, and so for a text.
use Rattle.std.specs.Prelude.{ℕ, ◌/◌, ◌%◌, List, [], ◌∷◌, ◌++◌, ◌==◌, if◌then◌else◌, codes}
use Rattle.std.specs.List.{flat_map}
use Rattle.hesc_specs.specs.Text.Ascii.{ampersand, less_than, greater_than, double_quote, semicolon}
use Rattle.hesc_specs.specs.Text.Classes.{in_class}
use Rattle.hesc_specs.specs.Text.HexDigits.{hex_digit}
use Rattle.hesc_specs.specs.declared.classes.Class.{Class}

-- the reference to a byte by its number, in two hex digits
abbrev pub hex_reference : ℕ → List ℕ
hex_reference b = codes "&#x" ++ hex_digit (b / 16) ∷ hex_digit (b % 16) ∷ semicolon ∷ []

-- the reference that stands for a byte
abbrev pub reference_to : ℕ → List ℕ
reference_to b =
    if b == ampersand then codes "&amp;"
    else (if b == less_than then codes "&lt;"
    else (if b == greater_than then codes "&gt;"
    else (if b == double_quote then codes "&quot;"
    else hex_reference b)))

-- what the encoder writes for a byte: its reference, or the byte itself
abbrev pub image : Class → ℕ → List ℕ
image class b = if in_class class b then reference_to b else b ∷ []

-- the encoding of a text joins the images of its bytes
abbrev pub encoding : Class → List ℕ → List ℕ
encoding class text = flat_map (image class) text
