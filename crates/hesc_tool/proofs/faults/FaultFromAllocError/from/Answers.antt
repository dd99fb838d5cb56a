use Rattle.std.proofs.Common.{rules}
use Rattle.hesc_tool.proofs.faults.FaultFromAllocError.from.Goals as goal

pub returns : goal.returns
returns c = search rules
