-- The two hex digits of a byte are read as its number.
use Rattle.std.proofs.Common.{ℕ, ◌≡◌, ◌<◌, ◌/◌, ◌%◌, true, List, [], ◌∷◌}
use Rattle.std.specs.Char.{is_digit}
use Rattle.std.proofs.lemmas.Bool.{lt-ltb}
use Rattle.hesc_specs.specs.Text.HexDigits.{hex_digit}
use Rattle.hesc_specs.proofs.Text.HexDigits.{digit_value-hex_digit}

pub is_digit-hex_digit : (d : ℕ) → d < 16 → is_digit (hex_digit d) 16 ≡ true
is_digit-hex_digit d small = rw (digit_value-hex_digit d small) (lt-ltb d 16 small)

-- the two digits of a byte
abbrev pub two_digits : ℕ → List ℕ
two_digits c = hex_digit (c / 16) ∷ hex_digit (c % 16) ∷ []
