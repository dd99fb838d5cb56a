use Rattle.std.proofs.Common.{arith}
use Rattle.std.proofs.lemmas.Grind.{common_steps}
use Rattle.hesc_commands.proofs.commands.command_of_few.Goals as goal

pub returns-in-page : goal.returns-in-page
returns-in-page c = grind (arith, common_steps)
