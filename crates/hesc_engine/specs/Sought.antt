-- The bytes that a rule looks for.
use Rattle.std.specs.Prelude.{◌==◌, ℕ, Bool}
use Rattle.hesc_specs.specs.Text.Classes.{in_class}
use Rattle.hesc_engine.specs.declared.sought.Sought.{Sought}
use Rattle.hesc_engine.specs.declared.sought.Sought.TheVariants.{InClass, Byte}

-- whether a byte is one of those that are sought
abbrev pub in_sought : Sought → ℕ → Bool
in_sought (InClass class) = in_class class
in_sought (Byte wanted) = λ byte. byte == wanted
