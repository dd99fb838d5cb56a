use Rattle.std.proofs.Common.{rules}
use Rattle.hesc_tool.proofs.faults.Fault.line.Goals as goal

pub returns-in-Memory : goal.returns-in-Memory
returns-in-Memory c = search rules
