use Rattle.std.proofs.Common.{rules}
use Rattle.hesc_commands.proofs.names.decoder_named.Goals as goal

pub returns-in-decode_script : goal.returns-in-decode_script
returns-in-decode_script c = search rules
