use Rattle.std.proofs.Common.{rules}
use Rattle.hesc_tool.proofs.program.after_flush.Goals as goal

pub returns-in-Err : goal.returns-in-Err
returns-in-Err c = search rules
