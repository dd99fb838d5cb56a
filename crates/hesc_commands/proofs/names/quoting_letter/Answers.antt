use Rattle.std.proofs.Common.{rules}
use Rattle.hesc_commands.proofs.names.quoting_letter.Goals as goal

pub returns-in-Single : goal.returns-in-Single
returns-in-Single c = search rules
