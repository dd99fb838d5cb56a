-- The hex digits that the encoders write.
use Rattle.std.proofs.Common.{ℕ, ◌≡◌, ◌<◌, arith}
use Rattle.std.proofs.lemmas.Bool.Decides.{nat_tests}
use Rattle.std.specs.Char.{digit_value}
use Rattle.hesc_specs.specs.Text.HexDigits.{hex_digit}

-- a hex digit has the value for which it was written
pub digit_value-hex_digit : (d : ℕ) → d < 16 → digit_value (hex_digit d) ≡ d
digit_value-hex_digit d small = grind (arith, nat_tests)
