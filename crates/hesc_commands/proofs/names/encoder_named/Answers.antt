use Rattle.std.proofs.Common.{rules}
use Rattle.hesc_commands.proofs.names.encoder_named.Goals as goal

pub returns-in-encode_safe : goal.returns-in-encode_safe
returns-in-encode_safe c = search rules
