use Rattle.hesc_table.proofs.NamedTable.{constant-named_rows}
use Rattle.hesc_table.proofs.entities.entities_agree.Goals as goal

pub returns : goal.returns
returns c = constant-named_rows
