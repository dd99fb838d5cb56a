use Rattle.std.proofs.Common.{rules}
use Rattle.hesc_tool.proofs.answers.make_answer.Goals as goal

pub returns-in-Lines : goal.returns-in-Lines
returns-in-Lines g c = search rules

pub returns-in-Operation : goal.returns-in-Operation
returns-in-Operation g c = search rules
