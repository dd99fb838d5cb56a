use Rattle.std.proofs.Common.{rules}
use Rattle.hesc_commands.proofs.names.place_named.Goals as goal

pub returns-in-text : goal.returns-in-text
returns-in-text c = search rules
