use Rattle.std.proofs.Common.{rules}
use Rattle.hesc_tool.proofs.program.outcome_of.Goals as goal

pub returns-in-Err : goal.returns-in-Err
returns-in-Err g c = search rules
