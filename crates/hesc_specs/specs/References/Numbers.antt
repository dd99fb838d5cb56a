-- Numbers of references, as a program holds them.
use Rattle.std.specs.Prelude.{ℕ, Bool, nat_lt, if◌then◌else◌}

-- a number, or for any number past the last character the one right after it
abbrev pub capped : ℕ → ℕ
capped n = if nat_lt n 0x110000 then n else 0x110000

-- the base of hex or of decimal digits
abbrev pub base_of : Bool → ℕ
base_of is_hex = if is_hex then 16 else 10
