use Rattle.std.proofs.Common.{rules}
use Rattle.hesc_tool.proofs.steps.read_whole.Goals as goal

pub returns-in_default-clause-whole : goal.returns-in_default-clause-whole
returns-in_default-clause-whole g c = search rules
