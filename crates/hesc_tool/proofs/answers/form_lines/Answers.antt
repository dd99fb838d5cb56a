use Rattle.std.proofs.Common.{rules}
use Rattle.hesc_tool.proofs.answers.form_lines.Goals as goal

pub returns-in-Some : goal.returns-in-Some
returns-in-Some g c = search rules
