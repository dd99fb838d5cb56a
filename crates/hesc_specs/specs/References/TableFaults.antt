-- The faults of a list of rows, by which it makes no table of entities.
use Rattle.std.specs.Prelude.{ℕ, zero, suc, ◌-◌, Bool, false, not, ◌&&◌, nat_le, ◌==◌, List, length, Option, Some, None, is_none, if◌then◌else◌}
use Rattle.std.specs.Char.{is_ascii_alphanumeric}
use Rattle.std.specs.Cmp.Lexicographic.{slice_cmp}
use Rattle.std.specs.List.{list_all}
use Rattle.std.specs.Option.{option_or}
use Rattle.std.specs.Ordering.{is_lt, nat_cmp}
use Rattle.std.specs.Str.{bytes_eq}
use Rattle.hesc_specs.specs.References.Rows.{Row, row_at, value_of, common_rows}
use Rattle.hesc_specs.specs.declared.table_fault.TableFault.{TableFault}
use Rattle.hesc_specs.specs.declared.table_fault.TableFault.TheVariants.{EmptyName, BadName, NotAscending, WrongCommon, MissingCommon}

-- every byte is an ASCII letter or digit
abbrev pub is_alphanumeric : List ℕ → Bool
is_alphanumeric name = list_all is_ascii_alphanumeric name

-- the name of a row is greater, by bytes, than that of the row before it
abbrev pub is_ascending : List Row → ℕ → Bool
is_ascending rows i = is_lt (slice_cmp nat_cmp (row_at rows (i - 1)).0 (row_at rows i).0)

-- there is a value, and it is another one
abbrev pub is_other : Option (List ℕ) → List ℕ → Bool
is_other None value = false
is_other (Some common) value = not (bytes_eq common value)

-- the name of a row is a common one, with another value
abbrev pub is_wrong_common : Row → Bool
is_wrong_common row = is_other (value_of common_rows row.0) row.1

-- the first fault of a row
abbrev pub row_fault : List Row → ℕ → Option TableFault
row_fault rows i =
    if length (row_at rows i).0 == 0 then Some (EmptyName i)
    else (if not (is_alphanumeric (row_at rows i).0) then Some (BadName i)
    else (if nat_le 1 i && not (is_ascending rows i) then Some (NotAscending i)
    else (if is_wrong_common (row_at rows i) then Some (WrongCommon i)
    else None)))

-- the first fault of the first n rows
abbrev pub faults_below : List Row → ℕ → Option TableFault
faults_below rows zero = None
faults_below rows (suc n) = option_or (faults_below rows n) (row_fault rows n)

-- the first of the first n common names that no row has
abbrev pub missing_below : List Row → ℕ → Option TableFault
missing_below rows zero = None
missing_below rows (suc n) =
    option_or (missing_below rows n)
    (if is_none (value_of rows (row_at common_rows n).0) then Some (MissingCommon n) else None)

-- the first fault of the rows, in their order, and after them the first missing name
abbrev pub first_fault : List Row → Option TableFault
first_fault rows = option_or (faults_below rows (length rows)) (missing_below rows (length common_rows))

-- the rows have no fault
abbrev pub is_table : List Row → Bool
is_table rows = is_none (first_fault rows)
