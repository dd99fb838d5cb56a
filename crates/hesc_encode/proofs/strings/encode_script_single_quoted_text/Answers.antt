use Rattle.hesc_encode.proofs.strings.encode_script_single_quoted_text.Goals as goal

pub returns : goal.returns
returns g c = c.encode_to_cow.ensures
