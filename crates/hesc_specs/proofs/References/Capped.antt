-- A number of digits that is held capped.
use Rattle.std.proofs.Common.{◌≡◌, ℕ, ◌+◌, ◌*◌, Bool, arith}
use Rattle.std.proofs.lemmas.Bool.Decides.{nat_tests}
use Rattle.hesc_specs.specs.References.Numbers.{base_of, capped}

-- one more digit of a capped number
pub capped-digit : (is_hex : Bool) (n d : ℕ) → capped (capped n * base_of is_hex + d) ≡ capped (n * base_of is_hex + d)
capped-digit is_hex n d = grind (arith, nat_tests)
