use Rattle.hesc_specs.proofs.Strings.Undone.{string_decoding-encoding}
use Rattle.hesc_laws.proofs.string_decoders_undo_encoders.Goals as goal

pub returns : goal.returns
returns c = string_decoding-encoding c.args.element c.args.decoder c.args.encoder c.args.text.now c.args.rest.now c.requires c.utf8.text
