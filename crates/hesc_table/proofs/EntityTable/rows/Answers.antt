use Rattle.std.proofs.Common.{refl}
use Rattle.hesc_table.proofs.EntityTable.rows.Goals as goal

pub returns : goal.returns
returns c = refl
