use Rattle.std.proofs.Common.{rules}
use Rattle.hesc_tool.proofs.steps.input_of.Goals as goal

pub returns-in-Page-clause-taken : goal.returns-in-Page-clause-taken
returns-in-Page-clause-taken g c = search rules
