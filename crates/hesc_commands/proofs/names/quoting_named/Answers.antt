use Rattle.std.proofs.Common.{rules}
use Rattle.hesc_commands.proofs.names.quoting_named.Goals as goal

pub returns-in-s : goal.returns-in-s
returns-in-s c = search rules
