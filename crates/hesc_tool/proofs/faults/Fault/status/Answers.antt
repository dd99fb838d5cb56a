use Rattle.std.proofs.Common.{rules}
use Rattle.hesc_tool.proofs.faults.Fault.status.Goals as goal

pub returns-in-Usage : goal.returns-in-Usage
returns-in-Usage c = search rules
