use Rattle.hesc_decode.proofs.strings.decode_script_single_quoted_text.Goals as goal

pub returns : goal.returns
returns g c = c.to_cow.ensures
