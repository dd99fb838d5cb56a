-- The groups that the classes of the string encoders are made of, by the nibbles of a byte.
use Rattle.std.specs.Prelude.{ℕ, ◌/◌, Bool, not, ◌==◌, if◌then◌else◌, bit_and, bit_or, slice_index}
use Rattle.hesc_specs.specs.declared.classes.Class.{Class}
use Rattle.hesc_specs.specs.declared.classes.Class.TheVariants as class
use Rattle.hesc_scan.specs.declared.lookup.groups.TheConstants.{ADDED, BY_HIGH_NIBBLE, BY_LOW_NIBBLE, DOUBLE, SCRIPT, SINGLE, STYLE}

-- the groups that a byte may be of by its low nibble, and by its high nibble
abbrev pub by_low : ℕ → ℕ
by_low b = slice_index BY_LOW_NIBBLE (bit_and b 15)

abbrev pub by_high : ℕ → ℕ
by_high b = slice_index BY_HIGH_NIBBLE (b / 16)

-- the wanted groups that the byte is in
abbrev pub wanted_of : ℕ → ℕ → ℕ
wanted_of wanted b = bit_and (bit_and (by_low b) (by_high b)) wanted

-- the byte is in one of the wanted groups
abbrev pub in_groups : ℕ → ℕ → Bool
in_groups wanted b = not (wanted_of wanted b == 0)

-- by how many bytes the escape of the byte is longer at most, or none where it is in no wanted group
abbrev pub added_to : ℕ → ℕ → ℕ
added_to wanted b = if in_groups wanted b then slice_index ADDED (b / 16) else 0

-- the groups that a string encoder's class is made of
abbrev pub groups_in : Class → ℕ
groups_in class.ScriptSingleQuoted = bit_or SCRIPT SINGLE
groups_in class.ScriptDoubleQuoted = bit_or SCRIPT DOUBLE
groups_in class.ScriptQuoted = bit_or (bit_or SCRIPT SINGLE) DOUBLE
groups_in class.StyleSingleQuoted = bit_or STYLE SINGLE
groups_in class.StyleDoubleQuoted = bit_or STYLE DOUBLE
groups_in other = bit_or (bit_or STYLE SINGLE) DOUBLE
