use Rattle.std.proofs.Common.{rules}
use Rattle.hesc_tool.proofs.answers.page.Goals as goal

pub returns : goal.returns
returns g c = search rules
