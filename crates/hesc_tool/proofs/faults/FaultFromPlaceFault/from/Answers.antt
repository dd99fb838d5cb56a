use Rattle.std.proofs.Common.{rules}
use Rattle.hesc_tool.proofs.faults.FaultFromPlaceFault.from.Goals as goal

pub returns-in-NotForPlace : goal.returns-in-NotForPlace
returns-in-NotForPlace c = search rules
