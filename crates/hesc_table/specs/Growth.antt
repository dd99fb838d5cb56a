-- What a table knows of its rows: how much longer than its source a decoded text may be.
use Rattle.std.specs.Prelude.{Bool, true, List}
use Rattle.hesc_specs.specs.References.Rows.{Row, are_short}
use Rattle.hesc_table.specs.Rows.{are_near}
use Rattle.hesc_table.specs.declared.growth.Growth.{Growth}
use Rattle.hesc_table.specs.declared.growth.Growth.TheVariants.{Never, AtMostAFifth, Unknown}

-- it is so
abbrev pub grow_by : Growth → List Row → Bool
grow_by Never rows = are_short rows
grow_by AtMostAFifth rows = are_near rows
grow_by Unknown rows = true
