use Rattle.hesc_decode.proofs.strings.decode_style_double_quoted_text.Goals as goal

pub returns : goal.returns
returns g c = c.to_cow.ensures
