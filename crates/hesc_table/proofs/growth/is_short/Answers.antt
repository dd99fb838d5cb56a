use Rattle.std.proofs.Common.{rules}
use Rattle.hesc_table.proofs.growth.is_short.Goals as goal

pub returns-then-not-is_empty : goal.returns-then-not-is_empty
returns-then-not-is_empty c = search rules
