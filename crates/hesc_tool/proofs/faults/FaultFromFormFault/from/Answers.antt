use Rattle.std.proofs.Common.{rules}
use Rattle.hesc_tool.proofs.faults.FaultFromFormFault.from.Goals as goal

pub returns-in-BadName : goal.returns-in-BadName
returns-in-BadName c = search rules
