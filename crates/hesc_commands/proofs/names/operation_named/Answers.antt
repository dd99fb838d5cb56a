use Rattle.std.proofs.Common.{rules}
use Rattle.hesc_commands.proofs.names.operation_named.Goals as goal

pub returns-in-Some-decoder_named : goal.returns-in-Some-decoder_named
returns-in-Some-decoder_named c = search rules
