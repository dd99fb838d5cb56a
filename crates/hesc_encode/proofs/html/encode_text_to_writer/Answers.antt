use Rattle.hesc_encode.proofs.html.encode_text_to_writer.Goals as goal

pub returns : goal.returns
returns g c = c.to_writer.ensures
