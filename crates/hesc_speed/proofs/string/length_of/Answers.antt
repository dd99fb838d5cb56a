use Rattle.std.proofs.Common.{rules}
use Rattle.hesc_speed.proofs.string.length_of.Goals as goal

pub returns-in-Err : goal.returns-in-Err
returns-in-Err c = search rules
