-- The constant of the built-in table is the table of the definition, row by row, computed.
use Rattle.std.proofs.Common.{◌≡◌, true, map, refl}
use Rattle.hesc_specs.specs.References.Rows.{are_short}
use Rattle.hesc_specs.specs.References.TableFaults.{is_table}
use Rattle.hesc_table.specs.NamedRows.{named_rows}
use Rattle.hesc_table.specs.declared.entities.TheConstants.{NAMED_ENTITIES}

pub constant-named_rows : map (λ row. (row.0.now, row.1.now)) NAMED_ENTITIES ≡ named_rows
unfolding lib.Utf8.encode
constant-named_rows = refl

pub good-named_rows : is_table named_rows ≡ true
unfolding lib.Utf8.encode
good-named_rows = refl

pub short-named_rows : are_short named_rows ≡ true
unfolding lib.Utf8.encode
short-named_rows = refl
