-- Bytes that a table has by their low nibble.
use Rattle.std.specs.Prelude.{ℕ, List, Bool, ◌==◌, bit_and, slice_index, if◌then◌else◌}
use Rattle.hesc_specs.specs.declared.classes.Class.{Class}
use Rattle.hesc_specs.specs.declared.classes.Class.TheVariants as class
use Rattle.hesc_scan.specs.declared.lookup.entries.TheConstants.{ADDED, DOUBLE_QUOTED, QUOTED, SAFE, SINGLE_QUOTED, TEXT, TEXT_MINIMAL}

-- the entry of a byte's low nibble
abbrev pub entry : List ℕ → ℕ → ℕ
entry table = λ b. slice_index table (bit_and b 15)

-- the byte is its own entry
abbrev pub is_entry : List ℕ → ℕ → Bool
is_entry table b = b == entry table b

-- how many bytes the reference to the byte has more than it, or none where the byte is not its own entry
abbrev pub added_to : List ℕ → ℕ → ℕ
added_to table b = if is_entry table b then entry ADDED b else 0

abbrev pub table_of : Class → List ℕ
table_of class.TextMinimal = TEXT_MINIMAL
table_of class.Text = TEXT
table_of class.DoubleQuotedAttribute = DOUBLE_QUOTED
table_of class.SingleQuotedAttribute = SINGLE_QUOTED
table_of class.QuotedAttribute = QUOTED
table_of other = SAFE
