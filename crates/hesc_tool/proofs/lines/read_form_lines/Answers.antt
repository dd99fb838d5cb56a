use Rattle.std.proofs.Common.{rules}
use Rattle.hesc_tool.proofs.lines.read_form_lines.Goals as goal

pub returns : goal.returns
returns g c = search rules
