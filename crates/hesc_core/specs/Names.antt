-- The rows in which names are looked up.
use Rattle.std.specs.Prelude.{List}
use Rattle.hesc_specs.specs.References.Rows.{Row}
use Rattle.hesc_table.specs.NamedRows.{named_rows}
use Rattle.hesc_table.specs.Table.{rows_of}
use Rattle.hesc_core.specs.declared.rules.references.names.Names.{Names}
use Rattle.hesc_core.specs.declared.rules.references.names.Names.TheVariants.{BuiltIn, Of}

abbrev pub names_rows : Names → List Row
names_rows BuiltIn = named_rows
names_rows (Of table) = rows_of table.now
