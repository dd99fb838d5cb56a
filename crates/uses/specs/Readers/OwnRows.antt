-- The rows of a table of one's own, as names and values.
use Rattle.std.specs.Prelude.{List}
use Rattle.hesc_specs.specs.References.Rows.{Row}
use Rattle.html_escape.specs.Words.{constant_rows}
use Rattle.uses.specs.declared.readers.table.TheConstants.{ROWS}

abbrev pub own_rows : List Row
own_rows = constant_rows ROWS
