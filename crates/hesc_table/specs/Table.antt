-- The rows of a table, and the names that are in every one.
use Rattle.std.specs.Prelude.{◌≡◌, ◌<◌, ℕ, Bool, false, List, Option, Some, None, codes, length, if◌then◌else◌}
use Rattle.std.specs.Str.{bytes_eq}
use Rattle.hesc_specs.specs.Text.Ascii.{ampersand, double_quote, less_than, greater_than}
use Rattle.hesc_specs.specs.References.Rows.{Row, row_at}
use Rattle.hesc_table.specs.Index.{is_whole}
use Rattle.hesc_table.specs.Rows.{rows_in}
use Rattle.hesc_table.specs.declared.EntityTable.{EntityTable}
use Rattle.hesc_table.specs.declared.index.NameIndex.{NameIndex}

abbrev pub rows_of : EntityTable → List Row
rows_of table = rows_in table.rows.now

abbrev pub index_of : EntityTable → NameIndex
index_of table = table.index

-- its index gives each name its row
abbrev pub has_whole_index : EntityTable → Bool
has_whole_index table = is_whole (index_of table) (rows_of table)

-- and is known to do so
abbrev pub knows_its_index : EntityTable → Bool
knows_its_index table = table.is_complete

-- where a row may have a name, it has another one
abbrev pub IsOtherRow : Option ℕ → List Row → List ℕ → Type 0
IsOtherRow candidate rows name = (k : ℕ) → k < length rows → candidate ≡ Some k → bytes_eq (row_at rows k).0 name ≡ false

-- the character of a name that encoders write
abbrev pub common_character : List ℕ → Option ℕ
common_character name =
    if bytes_eq name (codes "lt") then Some less_than
    else (if bytes_eq name (codes "gt") then Some greater_than
    else (if bytes_eq name (codes "amp") then Some ampersand
    else (if bytes_eq name (codes "quot") then Some double_quote
    else None)))
